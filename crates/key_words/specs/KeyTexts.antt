-- Keys as they are written: `NODE name ATTRIBUTE`, `LINK name ATTRIBUTE`, `GAGE name ATTRIBUTE` and
-- `SIMULATION ATTRIBUTE`.
use Rattle.std.specs.Prelude.{ℕ, List, [], ◌++◌, Option, None, Some, codes}
use Rattle.object_index.specs.Objects.{Object, Objects, object_at}
use Rattle.rule_types.specs.declared.object.ObjectNo.{ObjectNo}
use Rattle.rule_types.specs.declared.object.ObjectWord.{ObjectWord}
use Rattle.rule_types.specs.declared.object.ObjectWord.TheVariants.{Gage, Node, Link}
use Rattle.rule_types.specs.declared.object.Space.{Space}
use Rattle.rule_types.specs.declared.object.Space.TheVariants.{Nodes, Links, Gages}
use Rattle.rule_types.specs.declared.key.Key.{Key}
use Rattle.rule_types.specs.declared.key.Key.TheVariants as keys
use Rattle.key_words.specs.Words.{object_text, simulation_text, attribute_text, clock_text}

-- the word of the objects of a space; that of a link is LINK, of whatever kind it is
abbrev pub space_word : Space → ObjectWord
space_word Nodes = Node
space_word Links = Link
space_word Gages = Gage

-- the name of an object, with the bytes of its declaration, and no bytes where there is no such
-- object
abbrev pub name_of : Option Object → List ℕ
name_of None = []
name_of (Some object) = object.name

abbrev pub name_text : Objects → ObjectNo → List ℕ
name_text objects object = name_of (object_at objects object)

abbrev pub space : List ℕ
space = codes " "

abbrev pub key_text : Objects → Key → List ℕ
key_text objects (keys.Object object attribute) =
    object_text (space_word object.space) ++ space ++ name_text objects object ++ space
    ++ attribute_text attribute
key_text objects (keys.Clock attribute) = simulation_text ++ space ++ clock_text attribute
