-- The named objects of a network, and what a word and a name give.
use Rattle.std.specs.Prelude.{◌≡◌, ℕ, ◌+◌, Bool, true, false, List, [], ◌∷◌, ◌++◌, Option}
use Rattle.std.specs.Prelude.{None, Some, Result, Ok, Err, if◌then◌else◌, map, length, ⊤, slice_get}
use Rattle.std.specs.List.{list_any}
use Rattle.std.specs.Str.{bytes_eq}
use Rattle.rule_types.specs.Finding.{Found, Nothing, At, Several, finds}
use Rattle.rule_types.specs.declared.object.Space.{Space}
use Rattle.rule_types.specs.declared.object.Space.TheVariants.{Nodes, Links, Gages}
use Rattle.rule_types.specs.declared.object.ObjectNo.{ObjectNo}
use Rattle.rule_types.specs.declared.object.ObjectKind.{ObjectKind}
use Rattle.rule_types.specs.declared.object.ObjectKind.TheVariants as kinds
use Rattle.rule_types.specs.declared.object.ObjectWord.{ObjectWord}
use Rattle.rule_types.specs.declared.object.ObjectWord.TheVariants as words
use Rattle.object_index.specs.declared.unresolved.Unresolved.{Unresolved}
use Rattle.object_index.specs.declared.unresolved.Unresolved.TheVariants.{Unknown, Ambiguous}
use Rattle.object_index.specs.declared.unresolved.Unresolved.TheVariants.{WrongKind, NoMemory}

-- an object: its name and its kind
pub record Object : Type 0 where
  pub name : List ℕ
  pub kind : ObjectKind

-- the objects of the three spaces of names, each in the order in which they were added
pub record Objects : Type 0 where
  pub nodes : List Object
  pub links : List Object
  pub gages : List Object

-- no object
abbrev pub no_objects : Objects
no_objects = record { nodes = []; links = []; gages = [] }

-- the objects of a space
abbrev pub in_space : Objects → Space → List Object
in_space objects Nodes = objects.nodes
in_space objects Links = objects.links
in_space objects Gages = objects.gages

-- how many objects there are
abbrev pub object_count : Objects → ℕ
object_count objects = length objects.nodes + length objects.links + length objects.gages

-- the object of a number, if there is one
abbrev pub object_at : Objects → ObjectNo → Option Object
object_at objects object = slice_get (in_space objects object.space) object.index

-- the space of an object's name: nodes, links and gages each have one
abbrev pub kind_space : ObjectKind → Space
kind_space kinds.Gage = Gages
kind_space kinds.Node = Nodes
kind_space kinds.Conduit = Links
kind_space kinds.Pump = Links
kind_space kinds.Orifice = Links
kind_space kinds.Weir = Links
kind_space kinds.Outlet = Links

-- the space that a word of a control line looks in (the words: SWMM 5.2 manual, [CONTROLS])
abbrev pub word_space : ObjectWord → Space
word_space words.Gage = Gages
word_space words.Node = Nodes
word_space words.Link = Links
word_space words.Conduit = Links
word_space words.Pump = Links
word_space words.Orifice = Links
word_space words.Weir = Links
word_space words.Outlet = Links

-- whether a kind is that of a link
abbrev pub is_link : ObjectKind → Bool
is_link kinds.Gage = false
is_link kinds.Node = false
is_link kinds.Conduit = true
is_link kinds.Pump = true
is_link kinds.Orifice = true
is_link kinds.Weir = true
is_link kinds.Outlet = true

-- whether a word accepts an object of a kind: LINK every link, and each other word its own kind
-- (the words and which kinds they accept: SWMM 5.2 manual, [CONTROLS])
abbrev pub accepts : ObjectWord → ObjectKind → Bool
accepts words.Link kind = is_link kind
accepts words.Gage kinds.Gage = true
accepts words.Node kinds.Node = true
accepts words.Conduit kinds.Conduit = true
accepts words.Pump kinds.Pump = true
accepts words.Orifice kinds.Orifice = true
accepts words.Weir kinds.Weir = true
accepts words.Outlet kinds.Outlet = true
accepts word kind = false

-- the names of objects, in their order
abbrev pub names_of : List Object → List (List ℕ)
names_of objects = map (λ object. object.name) objects

-- whether one of the objects has these very bytes as its name
abbrev pub is_named : List ℕ → List Object → Bool
is_named name objects = list_any (bytes_eq name) (names_of objects)

-- the objects with one more at the end
abbrev pub and_object : List Object → ObjectKind → List ℕ → List Object
and_object objects kind name = objects ++ record { name = name; kind = kind } ∷ []

-- the objects with one more, at the end of a space
abbrev pub with_object_in : Space → Objects → ObjectKind → List ℕ → Objects
with_object_in Nodes objects kind name =
    record objects { nodes = and_object objects.nodes kind name }
with_object_in Links objects kind name =
    record objects { links = and_object objects.links kind name }
with_object_in Gages objects kind name =
    record objects { gages = and_object objects.gages kind name }

-- the objects with one more, at the end of the space of its kind
abbrev pub with_object : Objects → ObjectKind → List ℕ → Objects
with_object objects kind name = with_object_in (kind_space kind) objects kind name

-- the number of the next object of a kind: the number of objects in its space
abbrev pub next_number : Objects → ObjectKind → ObjectNo
next_number objects kind =
    record { space = kind_space kind; index = length (in_space objects (kind_space kind)) }

-- whether a word accepts the object at a place, if there is one
abbrev pub accepts_at : ObjectWord → Option Object → Bool
accepts_at word None = false
accepts_at word (Some object) = accepts word object.kind

-- what a word gives at what a name finds in the word's space
abbrev pub resolved : ObjectWord → List Object → Found → Result ObjectNo Unresolved
resolved word objects Nothing = Err Unknown
resolved word objects Several = Err Ambiguous
resolved word objects (At index) =
    if accepts_at word (slice_get objects index)
    then Ok (record { space = word_space word; index = index })
    else Err WrongKind

-- what a word and a name give: the object of the word's space that the name finds, by its bytes
-- and failing that with case ignored, if the word accepts its kind; the kind does not narrow the
-- search
abbrev pub resolution : Objects → ObjectWord → List ℕ → Result ObjectNo Unresolved
resolution objects word name =
    resolved word (in_space objects (word_space word))
    (finds (names_of (in_space objects (word_space word))) name)

-- an answer is the one that is due, unless there is no memory
abbrev pub Answers : Result ObjectNo Unresolved → Result ObjectNo Unresolved → Type 0
Answers (Ok object) due = Ok object ≡ due
Answers (Err Unknown) due = Err Unknown ≡ due
Answers (Err Ambiguous) due = Err Ambiguous ≡ due
Answers (Err WrongKind) due = Err WrongKind ≡ due
Answers (Err NoMemory) due = ⊤
