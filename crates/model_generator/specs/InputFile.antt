-- The input file of the generated model, in the format of the SWMM 5.2 manual, appendix D.
use Rattle.std.specs.Prelude.{ℕ, List, ◌++◌, codes}
use Rattle.std.specs.Fmt.{decimal}
use Rattle.std.specs.List.{flat_map, range_with_len}

-- the numbers of the pumps, from 1 on
abbrev pub up_to : ℕ → List ℕ
up_to n = range_with_len 1 n

-- words with a number behind them
unfoldable pub numbered : List ℕ → ℕ → List ℕ
numbered words i = words ++ decimal i

-- a junction, its bottom at 0
abbrev pub junction_line : ℕ → List ℕ
junction_line i = numbered (codes "N") i ++ codes " 0\n"

-- a pump from the junction of the same number to the outfall, off at first
abbrev pub pump_line : ℕ → List ℕ
pump_line i = numbered (codes "P") i ++ numbered (codes " N") i ++ codes " OUT * OFF\n"

-- a rule of this name on the junction and the pump of its number: the name, the words from the
-- junction's number to the pump's, and those behind it
unfoldable pub rule_text : List ℕ → List ℕ → List ℕ → ℕ → List ℕ
rule_text name test action i =
    numbered name i ++ numbered (codes "\nIF NODE N") i ++ numbered test i ++ action

-- the three rules of a pump: on above a depth of 6, off below 3, and at twice its speed above 8
abbrev pub rules_text : ℕ → List ℕ
rules_text i =
    rule_text (codes "RULE A") (codes " DEPTH > 6\nTHEN PUMP P") (codes " STATUS = ON\n") i
    ++ rule_text (codes "RULE B") (codes " DEPTH < 3\nTHEN PUMP P") (codes " STATUS = OFF\n") i
    ++ rule_text (codes "RULE C") (codes " DEPTH > 8\nTHEN PUMP P")
    (codes " SETTING = 2\nPRIORITY 1\n") i

-- the input file of a model of n pumps
abbrev pub generated_input : ℕ → List ℕ
generated_input n =
    codes "[JUNCTIONS]\n" ++ flat_map junction_line (up_to n)
    ++ codes "[OUTFALLS]\nOUT 0 FREE\n[PUMPS]\n" ++ flat_map pump_line (up_to n)
    ++ codes "[CONTROLS]\n" ++ flat_map rules_text (up_to n)
