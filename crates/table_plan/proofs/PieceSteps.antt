-- The numbers of a search that halves.
use Rattle.std.proofs.Common.{◌≡◌, ℕ, suc, ◌+◌, ◌-◌, ◌*◌, ◌^◌, ◌<◌, ◌≤◌, ap, ◌∙◌, arith}
use Rattle.std.proofs.Math.Nat.{mul-le-mul_left, pow-succ'}

-- one step more
pub power_more : (old steps : ℕ) → old ≤ steps → 2 ^ (steps + 1 - old) ≡ 2 * 2 ^ (steps - old)
power_more old steps h =
    let next : steps + 1 - old ≡ suc (steps - old) = omega arith in
    ap (λ k. 2 ^ k) next ∙ pow-succ' 2 (steps - old)

pub narrow_more : (p width half n : ℕ) → 2 * half ≤ width → p * width ≤ n → 2 * p * half ≤ n
narrow_more p width half n h narrow =
    let more : p * (2 * half) ≤ p * width = mul-le-mul_left p h in
    let same : 2 * p * half ≡ p * (2 * half) = omega arith in
    omega arith

pub few_more : (p width n : ℕ) → 0 < width → p * width ≤ n → 2 * p ≤ 2 * n + 1
few_more p width n h narrow =
    let more : p * 1 ≤ p * width = mul-le-mul_left p h in
    omega arith

-- what is left and what was spent, after one step more
pub narrow_step : (old steps new width half n : ℕ) → old ≤ steps → new ≡ steps + 1 → 2 * half ≤ width → 2 ^ (steps - old) * width ≤ n → 2 ^ (new - old) * half ≤ n
narrow_step old steps new width half n counted next halved narrow =
    let power : 2 ^ (new - old) ≡ 2 * 2 ^ (steps - old) = ap (λ k. 2 ^ (k - old)) next ∙ power_more old steps counted in
    rw power (narrow_more (2 ^ (steps - old)) width half n halved narrow)

pub few_step : (old steps new width n : ℕ) → old ≤ steps → new ≡ steps + 1 → 0 < width → 2 ^ (steps - old) * width ≤ n → 2 ^ (new - old) ≤ 2 * n + 1
few_step old steps new width n counted next wide narrow =
    let power : 2 ^ (new - old) ≡ 2 * 2 ^ (steps - old) = ap (λ k. 2 ^ (k - old)) next ∙ power_more old steps counted in
    rw power (few_more (2 ^ (steps - old)) width n wide narrow)
