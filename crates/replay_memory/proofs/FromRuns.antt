-- What a run over files in memory leaves, from what any run leaves.
use Rattle.std.proofs.Common.{◌≡◌, ℕ, ◌-◌, ◌⊎◌, inl, inr, List, [], length, take, Option, Some}
use Rattle.std.proofs.Common.{IfSome, ap, ◌∙◌, subst, sym, arith}
use Rattle.std.proofs.lemmas.Option.{IfSome_then}
use Rattle.byte_edge.specs.Devices.{AppendsPrefix}
use Rattle.command_outputs.specs.Outcomes.{Outcome}
use Rattle.command_outputs.specs.Runs.{EndsAs, Leaves, Says, SaysDevice}
use Rattle.command_outputs.specs.declared.role.Role.{Role}
use Rattle.command_outputs.specs.declared.status.Status.{Status}
use Rattle.command_outputs.specs.declared.status.Status.TheVariants.{Done, Refused, Usage, Device}
use Rattle.command_outputs.specs.declared.status.Status.TheVariants.{NoMemory, Refuted, Undecided}
use Rattle.swmm_rules.specs.Commands.{usage_text}
use Rattle.replay_memory.specs.InMemory.{EndsBytes, IsPrefixOf, LeavesBytes, SaysFault}

-- what is written to an empty sink is a prefix of the text
prefix : (bytes text : List ℕ) → AppendsPrefix (Some []) (Some bytes) text → IsPrefixOf text bytes
prefix bytes text p =
    let all : length bytes - 0 ≡ length bytes = omega arith in p ∙ ap (λ n. take n text) all

ends : (o : Outcome) (left_now : ℕ → Option (List ℕ)) (output error : List ℕ) (status : Status)
    → EndsAs o left_now (Some []) (Some output) (Some []) (Some error) status
    → EndsBytes o output error status
ends o left_now output error status e =
    record { ends = e.status; text = e.output; message = e.message }

fault : (roles : List Role) (fw fn : ℕ → ℕ) (ofw ofn efw efn : ℕ) (error : List ℕ)
    → SaysDevice usage_text roles fw fn ofw ofn efw efn (Some []) (Some error) → SaysFault error
fault roles fw fn ofw ofn efw efn error (inl p) = inl (p.0, p.2)
fault roles fw fn ofw ofn efw efn error (inr (inl p)) = inr (inl p.1)
fault roles fw fn ofw ofn efw efn error (inr (inr (failed, (text, message, said)))) =
    inr (inr (text, message, prefix error text said))

left_bytes : (roles : List Role) (o : Outcome) (second : Option (List ℕ))
    (left_now : ℕ → Option (List ℕ)) (output error : List ℕ) (fw fn : ℕ → ℕ)
    (ofw ofn efw efn : ℕ) (status : Status)
    → Leaves o second left_now (Some []) (Some output) (Some []) (Some error) ofw ofn efw efn status
    → Says usage_text roles fw fn ofw ofn efw efn (Some []) (Some error) status
    → LeavesBytes o output error status
left_bytes roles o second left_now output error fw fn ofw ofn efw efn Done l s =
    ends o left_now output error Done l
left_bytes roles o second left_now output error fw fn ofw ofn efw efn Refused l s =
    ends o left_now output error Refused l
left_bytes roles o second left_now output error fw fn ofw ofn efw efn Usage l s =
    ends o left_now output error Usage l
left_bytes roles o second left_now output error fw fn ofw ofn efw efn Refuted l s =
    ends o left_now output error Refuted l
left_bytes roles o second left_now output error fw fn ofw ofn efw efn Undecided l s =
    ends o left_now output error Undecided l
left_bytes roles o second left_now output error fw fn ofw ofn efw efn NoMemory l s =
    (prefix output o.output l, s)
left_bytes roles o second left_now output error fw fn ofw ofn efw efn Device l s =
    (prefix output o.output l.prefix, fault roles fw fn ofw ofn efw efn error s)

-- the same of an outcome that may be unknown, where the sinks held nothing before
pub left_in_memory : (roles : List Role) (outcome : Option Outcome) (second : Option (List ℕ))
    (left_now : ℕ → Option (List ℕ)) (out_was output err_was error : List ℕ) (fw fn : ℕ → ℕ)
    (ofw ofn efw efn : ℕ) (status : Status) → out_was ≡ [] → err_was ≡ []
    → IfSome outcome (λ o. Leaves o second left_now (Some out_was) (Some output)
    (Some err_was) (Some error) ofw ofn efw efn status)
    → Says usage_text roles fw fn ofw ofn efw efn (Some err_was) (Some error) status
    → IfSome outcome (λ o. LeavesBytes o output error status)
left_in_memory roles outcome second left_now out_was output err_was error fw fn ofw ofn efw efn status
    out_empty err_empty leaves says =
    let P : List ℕ → List ℕ → Type 0 = λ o_was e_was. IfSome outcome (λ o. Leaves o second left_now
    (Some o_was) (Some output) (Some e_was) (Some error) ofw ofn efw efn status) in
    let S : List ℕ → Type 0 = λ was. Says usage_text roles fw fn ofw ofn efw efn (Some was)
    (Some error) status in
    let left = subst (P []) err_empty (subst (λ was. P was err_was) out_empty leaves) in
    let said = subst S err_empty says in
    IfSome_then outcome left (λ o l. left_bytes roles o second left_now output error fw fn
    ofw ofn efw efn status l said)
