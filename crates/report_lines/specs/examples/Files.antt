-- Reports of a station, worked out by hand.
use Rattle.std.specs.Prelude.{◌≡◌, ℕ, Bool, true, false, List, [], ◌∷◌, codes, map}
use Rattle.std.specs.Prelude.{Option, None, Some, Result, Ok, Err, pos, negsuc}
use Rattle.exact_fraction.specs.Number.{Rational, whole, zero, one, ratio}
use Rattle.exact_fraction.specs.declared.relation.Relation.TheVariants.{Gt}
use Rattle.inp_text.specs.Sections.{Line}
use Rattle.interval_sets.specs.declared.interval.Bound.TheVariants as end
use Rattle.object_index.specs.Objects.{Objects}
use Rattle.rule_types.specs.declared.action.What.TheVariants as what
use Rattle.rule_types.specs.declared.condition.Right.TheVariants as right
use Rattle.rule_types.specs.declared.condition.Side.TheVariants as side
use Rattle.rule_types.specs.declared.key.Attr.{Attr}
use Rattle.rule_types.specs.declared.key.Attr.TheVariants as attributes
use Rattle.rule_types.specs.declared.key.Key.{Key}
use Rattle.rule_types.specs.declared.key.Key.TheVariants as keys
use Rattle.rule_types.specs.declared.object.ObjectKind.TheVariants as kinds
use Rattle.rule_types.specs.declared.object.Space.TheVariants.{Nodes, Links}
use Rattle.rule_types.specs.declared.rule.Rule.{Rule}
use Rattle.rule_types.specs.declared.rules.Rules.{Rules}
use Rattle.rule_types.specs.declared.state.State.{State}
use Rattle.verdict_meaning.specs.declared.cert.Cert.{Cert}
use Rattle.verdict_meaning.specs.declared.cert.Cert.TheVariants as cert
use Rattle.verdict_meaning.specs.declared.cert.Reason.TheVariants.{Whole, Facts}
use Rattle.verdict_meaning.specs.declared.question.Question.{Question}
use Rattle.verdict_meaning.specs.declared.question.Question.TheVariants.{Conflict, Dead, Limit}
use Rattle.verdict_meaning.specs.declared.verdict.Stuck.TheVariants as stuck
use Rattle.verdict_meaning.specs.declared.verdict.Verdict.{Verdict}
use Rattle.verdict_meaning.specs.declared.verdict.Verdict.TheVariants as verdict
use Rattle.report_lines.specs.KeyLines.{piece_of}
use Rattle.report_lines.specs.Reports.{Entry, known_of, question_line, report_of}

-- pieces with their ends in, out or wanting; what is empty or written otherwise is none
pub record ArePieces : Type 0 where
  pub open_piece : piece_of (codes "(0,10)")
      ≡ Some (record { low = end.Bound zero true; high = end.Bound (whole (pos 10)) true })
  pub half_open : piece_of (codes "[0,+inf)")
      ≡ Some (record { low = end.Bound zero false; high = end.NoBound })
  pub whole_line : piece_of (codes "(-inf,+inf)")
      ≡ Some (record { low = end.NoBound; high = end.NoBound })
  pub point : piece_of (codes "[0,0]")
      ≡ Some (record { low = end.Bound zero false; high = end.Bound zero false })
  pub empty : piece_of (codes "[0,0)") ≡ None
  pub falling : piece_of (codes "[10,0]") ≡ None
  pub no_end_held : piece_of (codes "[-inf,0]") ≡ None
  pub padded : piece_of (codes "[00,1]") ≡ None
  pub three_ends : piece_of (codes "[0,1,2]") ≡ None
  pub nothing : piece_of [] ≡ None

-- ---- a station of a node, two pumps and an orifice that no rule acts on, with two rules that start
-- and stop the first pump by the node's depth and by the time since it was opened
abbrev pub station : Objects
station = record {
  nodes = record { name = codes "N1"; kind = kinds.Node } ∷ [];
  links =
      record { name = codes "P1"; kind = kinds.Pump }
      ∷ record { name = codes "P2"; kind = kinds.Pump }
      ∷ record { name = codes "O1"; kind = kinds.Orifice } ∷ [];
  gages = [];
}

abbrev pub node_key : Key
node_key = keys.Object (record { space = Nodes; index = 0 }) attributes.Depth

abbrev pub link_key : Attr → Key
link_key attribute = keys.Object (record { space = Links; index = 0 }) attribute

abbrev pub rule : Key → Rational → Rule
rule key setting = record {
  id = codes "R";
  conditions = record {
    left = side.Key key;
    rel = Gt;
    right = right.Value one;
    half_step = false;
    joined_by_and = true;
  } ∷ [];
  then_actions = record { link = 0; what = what.Constant setting } ∷ [];
  else_actions = [];
  priority = None;
}

abbrev pub two_rules : Rules
two_rules = record {
  rules = rule node_key one ∷ rule (link_key attributes.TimeOpen) zero ∷ [];
  names = [];
  input_keys = node_key ∷ [];
  tracked = 0 ∷ [];
  controlled = 0 ∷ [];
  pumps = true ∷ [];
  initial = one ∷ [];
  rates = zero ∷ [];
  start = Some (pos 60);
  routing_step = one;
  rule_step = zero;
}

abbrev pub lines : List (List ℕ) → List Line
lines texts = map Some texts

abbrev pub reads : List (List ℕ) → Result (List Entry) ℕ
reads texts = report_of (lines texts) two_rules station

-- what a question's line asks
abbrev pub asks : List ℕ → Option Question
asks text = question_line (known_of two_rules station) (Some text)

pub record AreQuestions : Type 0 where
  pub conflict : asks (codes "question conflict 2 1 P1") ≡ Some (Conflict 1 0 0)
  pub dead : asks (codes "question dead 1") ≡ Some (Dead 0)
  pub limit : asks (codes "question limit P1 -0.5 1/3")
      ≡ Some (Limit 0 (ratio (negsuc 0) 2) (ratio (pos 1) 3))
  pub one_rule : asks (codes "question conflict 1 1 P1") ≡ None
  pub no_rule : asks (codes "question dead 3") ≡ None
  pub rule_of_zero : asks (codes "question dead 0") ≡ None
  pub padded_rule : asks (codes "question dead 01") ≡ None
  pub other_case : asks (codes "question conflict 1 2 p1") ≡ None
  pub free_link : asks (codes "question limit O1 0 1") ≡ None
  pub falling_limit : asks (codes "question limit P1 1 0") ≡ None
  pub other_number : asks (codes "question limit P1 0 1.0") ≡ None
  pub two_spaces : asks (codes "question  dead 1") ≡ None
  pub capital : asks (codes "Question dead 1") ≡ None

abbrev pub entry : Question → Verdict → List ℕ → Entry
entry question verdict places =
    record { question = question; verdict = verdict; places = places }

abbrev pub whole_leaf : Cert
whole_leaf = cert.Leaf Whole

abbrev pub leaf_with : List (ℕ × Bool) → Cert
leaf_with facts = cert.Leaf (Facts facts)

-- the state of one verdict: the pump runs, and has done so for two hours
abbrev pub running : State
running = record {
  moment = pos 60;
  start = pos 60;
  step = one;
  inputs = Some (whole (pos 3)) ∷ [];
  links = record { setting = one; target = one; timer = whole (pos 2) } ∷ [];
}

-- the same where the pump stands, whose TIMEOPEN is then missing
abbrev pub standing : State
standing = record {
  moment = pos 60;
  start = pos 60;
  step = one;
  inputs = Some (whole (pos 3)) ∷ [];
  links = record { setting = zero; target = zero; timer = zero } ∷ [];
}

-- whether reports are read: of no entry; a tree of version 1 and one of version 2; states; a cell
-- and a count
pub record AreReports : Type 0 where
  pub no_entry : reads (codes "report 1" ∷ codes "end" ∷ []) ≡ Ok []
  pub tree : reads
      (codes "report 1" ∷ codes "question dead 1" ∷ codes "holds"
      ∷ codes "split NODE N1 DEPTH 1" ∷ codes "leaf" ∷ codes "leaf" ∷ codes "leaf"
      ∷ codes "end" ∷ [])
      ≡ Ok
      (entry (Dead 0)
      (verdict.Holds (cert.Split node_key one whole_leaf whole_leaf whole_leaf))
      (3 ∷ 4 ∷ 5 ∷ 6 ∷ []) ∷ [])
  pub tree_with_facts : reads
      (codes "report 2" ∷ codes "question dead 1" ∷ codes "holds"
      ∷ codes "split LINK P1 SETTING 0" ∷ codes "leaf" ∷ codes "leaf"
      ∷ codes "fact 1 yes" ∷ codes "fact 2 no" ∷ codes "leaf" ∷ codes "fact 2 yes"
      ∷ codes "end" ∷ [])
      ≡ Ok
      (entry (Dead 0)
      (verdict.Holds
      (cert.Split (link_key attributes.Setting) zero (leaf_with [])
      (leaf_with ((0, true) ∷ (1, false) ∷ [])) (leaf_with ((1, true) ∷ []))))
      (3 ∷ 4 ∷ 5 ∷ 8 ∷ []) ∷ [])
  pub states : reads
      (codes "report 1" ∷ codes "question dead 2" ∷ codes "refuted"
      ∷ codes "value NODE N1 DEPTH 3" ∷ codes "value LINK P1 SETTING 1"
      ∷ codes "value LINK P1 TIMEOPEN 2" ∷ codes "question dead 2" ∷ codes "refuted"
      ∷ codes "value NODE N1 DEPTH 3" ∷ codes "value LINK P1 SETTING 0"
      ∷ codes "end" ∷ [])
      ≡ Ok
      (entry (Dead 1) (verdict.Refuted running) []
      ∷ entry (Dead 1) (verdict.Refuted standing) [] ∷ [])
  pub cell_and_count : reads
      (codes "report 1" ∷ codes "question dead 1" ∷ codes "undecided cell"
      ∷ codes "piece NODE N1 DEPTH (0,1)" ∷ codes "piece LINK P1 SETTING [0,0]"
      ∷ codes "piece LINK P1 TIMEOPEN [0,+inf)" ∷ codes "question dead 1"
      ∷ codes "undecided count 1594323" ∷ codes "end" ∷ [])
      ≡ Ok
      (entry (Dead 0)
      (verdict.Undecided
      (stuck.Cell
      (record {
        keys =
            (node_key, record { low = end.Bound zero true; high = end.Bound one true })
            ∷ (
              link_key attributes.Setting,
              record { low = end.Bound zero false; high = end.Bound zero false },
            )
            ∷ (
              link_key attributes.TimeOpen,
              record { low = end.Bound zero false; high = end.NoBound },
            ) ∷ [];
        moments = None;
      })))
      []
      ∷ entry (Dead 0) (verdict.Undecided (stuck.TooManyCells 1594323)) [] ∷ [])

-- the number of the first line at fault
abbrev pub fault_at : ℕ → List (List ℕ) → Type 0
fault_at place texts = reads texts ≡ Err place

abbrev pub of_tree : List (List ℕ) → List (List ℕ)
of_tree texts = codes "report 2" ∷ codes "question dead 1" ∷ codes "holds" ∷ texts

abbrev pub of_state : List (List ℕ) → List (List ℕ)
of_state texts = codes "report 1" ∷ codes "question dead 1" ∷ codes "refuted" ∷ texts

-- whether reports have their first fault at these places, counted from 0
pub record AreFaults : Type 0 where
  pub empty : fault_at 0 []
  pub version : fault_at 0 (codes "report 3" ∷ codes "end" ∷ [])
  pub no_end : fault_at 1 (codes "report 1" ∷ [])
  pub line_behind_end : fault_at 2 (codes "report 1" ∷ codes "end" ∷ codes "" ∷ [])
  pub no_verdict : fault_at 2 (codes "report 1" ∷ codes "question dead 1" ∷ codes "end" ∷ [])
  pub padded_count : fault_at 2
      (codes "report 1" ∷ codes "question dead 1" ∷ codes "undecided count 01" ∷ codes "end" ∷ [])
  pub no_tree : fault_at 3 (of_tree (codes "end" ∷ []))
  pub other_key : fault_at 3 (of_tree (codes "split NODE N1 HEAD 1" ∷ codes "leaf" ∷ []))
  pub no_moments : fault_at 3
      (of_tree (codes "split MOMENT 1970-01-01T00:01:00" ∷ codes "leaf" ∷ codes "leaf" ∷ []))
  pub two_trees : fault_at 6
      (of_tree (codes "split NODE N1 DEPTH 1" ∷ codes "leaf" ∷ codes "leaf" ∷ codes "end" ∷ []))
  pub falling_facts : fault_at 5
      (of_tree (codes "leaf" ∷ codes "fact 2 no" ∷ codes "fact 1 no" ∷ codes "end" ∷ []))
  pub no_fact : fault_at 4 (of_tree (codes "leaf" ∷ codes "fact 3 no" ∷ codes "end" ∷ []))
  pub half_a_fact : fault_at 4 (of_tree (codes "leaf" ∷ codes "fact 1" ∷ codes "end" ∷ []))
  pub fact_of_version_1 : fault_at 4
      (codes "report 1" ∷ codes "question dead 1" ∷ codes "holds" ∷ codes "leaf"
      ∷ codes "fact 1 no" ∷ codes "end" ∷ [])
  pub no_value : fault_at 4
      (of_state (codes "value NODE N1 DEPTH 3" ∷ codes "value LINK P1 TIMEOPEN 2" ∷ []))
  pub timer_of_stopped : fault_at 5
      (of_state (codes "value NODE N1 DEPTH 3" ∷ codes "value LINK P1 SETTING 0"
      ∷ codes "value LINK P1 TIMEOPEN 2" ∷ codes "end" ∷ []))
  pub other_word : fault_at 3 (of_state (codes "value node N1 DEPTH 3" ∷ []))
  pub long_line : report_of (None ∷ []) two_rules station ≡ Err 0
