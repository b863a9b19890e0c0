-- What control lines say, worked out by hand.
use Rattle.std.specs.Prelude.{◌≡◌, ℕ, List, [], ◌∷◌, Option, None, Some, codes}
use Rattle.exact_fraction.specs.declared.relation.Relation.TheVariants.{Eq, Gt, Le}
use Rattle.inp_text.specs.Items.{words}
use Rattle.rule_types.specs.declared.object.ObjectWord.{ObjectWord}
use Rattle.rule_types.specs.declared.object.ObjectWord.TheVariants as objects
use Rattle.control_lines.specs.declared.clause.Stage.{Stage}
use Rattle.control_lines.specs.declared.clause.Stage.TheVariants.{Outside, Headed, InPremise}
use Rattle.control_lines.specs.declared.clause.Stage.TheVariants.{InThen}
use Rattle.control_lines.specs.declared.statement.ConditionWord.TheVariants as condition_words
use Rattle.control_lines.specs.declared.statement.ActionWord.TheVariants as action_words
use Rattle.control_lines.specs.Statements.{SideText, ObjectAttribute, ValueText}
use Rattle.control_lines.specs.Statements.{Statement, Object, Clock, Key, Single, Plain, Curve}
use Rattle.control_lines.specs.Statements.{Series, Pid, Variable, Expression, Head, Condition}
use Rattle.control_lines.specs.Statements.{Action, Priority, statement_of}

-- what a line says at a stage, and outside of rules
abbrev pub at : Stage → List ℕ → Option Statement
at stage line = statement_of stage (words line)

abbrev pub says : List ℕ → Option Statement
says line = at Outside line

abbrev pub attribute : ObjectWord → List ℕ → List ℕ → ObjectAttribute
attribute word name item = record { word = word; name = name; attribute = item }

abbrev pub depth : SideText
depth = Key (Object (attribute objects.Node (codes "N1") (codes "DEPTH")))

abbrev pub pump_setting : ObjectAttribute
pump_setting = attribute objects.Pump (codes "P1") (codes "SETTING")

abbrev pub setting_of : ValueText → Option Statement
setting_of value =
    Some (Action (record { word = action_words.Then; target = pump_setting; value = value }))

pub record AreDeclarations : Type 0 where
  pub variable :
      says (codes "variable q = LINK 1 FLOW")
      ≡ Some (Variable (codes "q") (Object (attribute objects.Link (codes "1") (codes "FLOW"))))
  pub clock :
      says (codes "VARIABLE t = simulation TIME")
      ≡ Some (Variable (codes "t") (Clock (codes "TIME")))
  pub no_key : says (codes "VARIABLE a = 5") ≡ None
  pub more : says (codes "VARIABLE q = LINK 1 FLOW 2") ≡ None
  pub no_equals : says (codes "VARIABLE q LINK 1 FLOW") ≡ None
  pub other_sign : says (codes "VARIABLE q <= LINK 1 FLOW") ≡ None
  pub short_key : says (codes "VARIABLE q = LINK 1") ≡ None
  pub short_clock : says (codes "VARIABLE q = SIMULATION") ≡ None
  pub no_name : says (codes "VARIABLE") ≡ None
  pub formula :
      says (codes "EXPRESSION r = ( a+b ) /2")
      ≡ Some (Expression (codes "r") (codes "(" ∷ codes "a+b" ∷ codes ")" ∷ codes "/2" ∷ []))
  pub no_formula : says (codes "EXPRESSION r =") ≡ None
  pub joined_sign : says (codes "EXPRESSION r =a") ≡ None

pub record AreConditions : Type 0 where
  pub value :
      says (codes "IF NODE N1 DEPTH > 5")
      ≡ Some (Condition (record {
        word = condition_words.If;
        left = depth;
        relation = Gt;
        right = Single (codes "5");
      }))
  pub two_keys :
      says (codes "OR SIMULATION TIME <= NODE N1 DEPTH")
      ≡ Some (Condition (record {
        word = condition_words.Or;
        left = Key (Clock (codes "TIME"));
        relation = Le;
        right = depth;
      }))
  pub names :
      says (codes "If foo = abc")
      ≡ Some (Condition (record {
        word = condition_words.If;
        left = Single (codes "foo");
        relation = Eq;
        right = Single (codes "abc");
      }))
  pub no_right : says (codes "IF NODE N1 DEPTH >") ≡ None
  pub no_relation : says (codes "IF NODE N1 DEPTH 5") ≡ None
  pub joined_sign : says (codes "IF NODE N1 DEPTH >5") ≡ None
  pub more : says (codes "IF NODE N1 DEPTH > 5 6") ≡ None
  pub short_key : says (codes "IF NODE N1 > 5") ≡ None
  pub word_alone : says (codes "IF") ≡ None
  pub word_on_the_right : says (codes "IF q > NODE") ≡ None

pub record AreActions : Type 0 where
  pub one : says (codes "THEN PUMP P1 SETTING = 5") ≡ setting_of (Plain (codes "5"))
  pub word : says (codes "THEN PUMP P1 SETTING = PID") ≡ setting_of (Plain (codes "PID"))
  pub curve :
      says (codes "THEN PUMP P1 SETTING = curve C1")
      ≡ setting_of (Curve (record { word = codes "curve"; name = codes "C1" }))
  pub series :
      says (codes "THEN PUMP P1 SETTING = TIMESERIES S1")
      ≡ setting_of (Series (record { word = codes "TIMESERIES"; name = codes "S1" }))
  pub pid :
      says (codes "THEN PUMP P1 SETTING = Pid 1 2 3")
      ≡ setting_of (Pid (record {
        word = codes "Pid";
        gain = codes "1";
        integral = codes "2";
        derivative = codes "3";
      }))
  pub otherwise :
      says (codes "ELSE PUMP P1 SETTING = 5")
      ≡ Some (Action (record {
        word = action_words.Else;
        target = pump_setting;
        value = Plain (codes "5");
      }))
  pub more :
      at InThen (codes "AND PUMP P1 SETTING = 5")
      ≡ Some (Action (record {
        word = action_words.And;
        target = pump_setting;
        value = Plain (codes "5");
      }))
  pub in_premise :
      at InPremise (codes "AND PUMP P1 SETTING = 5")
      ≡ Some (Condition (record {
        word = condition_words.And;
        left = Key (Object pump_setting);
        relation = Eq;
        right = Single (codes "5");
      }))
  pub condition_behind_then :
      at InThen (codes "AND NODE N1 DEPTH > 5")
      ≡ Some (Condition (record {
        word = condition_words.And;
        left = depth;
        relation = Gt;
        right = Single (codes "5");
      }))
  pub curve_in_premise : at InPremise (codes "AND PUMP P1 SETTING = CURVE C1") ≡ None
  pub any_link : says (codes "THEN LINK P1 SETTING = 5") ≡ None
  pub node : says (codes "THEN NODE N1 SETTING = 5") ≡ None
  pub gage : says (codes "THEN GAGE N1 SETTING = 5") ≡ None
  pub no_value : says (codes "THEN PUMP P1 SETTING =") ≡ None
  pub two_values : says (codes "THEN PUMP P1 SETTING = 1 2") ≡ None
  pub two_numbers : says (codes "THEN PUMP P1 SETTING = PID 1 2") ≡ None
  pub four_numbers : says (codes "THEN PUMP P1 SETTING = PID 1 2 3 4") ≡ None
  pub three_numbers_of_a_curve : says (codes "THEN PUMP P1 SETTING = CURVE 1 2 3") ≡ None
  pub other_sign : says (codes "THEN PUMP P1 SETTING > 5") ≡ None
  pub no_attribute : says (codes "THEN PUMP P1 = 5") ≡ None

pub record AreOtherLines : Type 0 where
  pub rule : says (codes "RULE R1") ≡ Some (Head (codes "R1"))
  pub no_id : at Headed (codes "RULE") ≡ None
  pub two_ids : says (codes "RULE R1 R2") ≡ None
  pub priority : says (codes "priority -3") ≡ Some (Priority (codes "-3"))
  pub no_number : says (codes "PRIORITY") ≡ None
  pub two_numbers : says (codes "PRIORITY 1 2") ≡ None
  pub other_word : says (codes "WHEN NODE N1 DEPTH > 5") ≡ None
  pub no_items : says [] ≡ None
