-- The tokens of a text from a place on, one token at a time.
use Rattle.std.proofs.Common.{◌≡◌, ℕ, zero, suc, ◌+◌, ◌-◌, ◌<◌, ◌≤◌, true, false, ◌==◌, List}
use Rattle.std.proofs.Common.{[], ◌∷◌, ◌++◌, length, drop, get_or, refl, sym, ap, ◌∙◌, arith}
use Rattle.std.proofs.Common.{drop-drop, append_assoc}
use Rattle.std.proofs.lemmas.List.{drop_more}
use Rattle.std.proofs.lemmas.Bool.Decides.{nat_tests}
use Rattle.num_text.specs.Bytes.{space}
use Rattle.expr_parser.specs.declared.token.Token.{Token}
use Rattle.expr_parser.specs.Tokens.{lexeme, is_stray, token_at, tokens_from}

-- the rest of a token is passed over
pub past_rest : (at n : ℕ) (z : List ℕ) → tokens_from at n z ≡ tokens_from (at + n) 0 (drop n z)
past_rest at zero z = let e : at ≡ at + zero = omega arith in ap (λ k. tokens_from k 0 z) e
past_rest at (suc n) [] = refl
past_rest at (suc n) (byte ∷ z) =
    let e : suc at + n ≡ at + suc n = omega arith in
    past_rest (suc at) n z ∙ ap (λ k. tokens_from k 0 (drop n z)) e

pub past_space : (at byte : ℕ) (z : List ℕ) → (byte == space) ≡ true → tokens_from at 0 (byte ∷ z) ≡ tokens_from (suc at) 0 z
past_space at byte z h = rw (h) refl

pub past_stray : (at byte : ℕ) (z : List ℕ) → (byte == space) ≡ false → is_stray (lexeme (byte ∷ z)).kind ≡ true
    → tokens_from at 0 (byte ∷ z) ≡ token_at at (lexeme (byte ∷ z)) ∷ []
past_stray at byte z h stray = rw (h, stray) refl

pub past_token : (at byte : ℕ) (z : List ℕ) → (byte == space) ≡ false → is_stray (lexeme (byte ∷ z)).kind ≡ false
    → 1 ≤ (lexeme (byte ∷ z)).length
    → tokens_from at 0 (byte ∷ z) ≡ token_at at (lexeme (byte ∷ z)) ∷ tokens_from (at + (lexeme (byte ∷ z)).length) 0 (drop (lexeme (byte ∷ z)).length (byte ∷ z))
past_token at byte z h stray some =
    let n = (lexeme (byte ∷ z)).length in
    let there : suc at + (n - 1) ≡ at + n = omega arith in
    let one : n ≡ suc (n - 1) = omega arith in
    let whole : tokens_from (suc at) (n - 1) z ≡ tokens_from (at + n) 0 (drop n (byte ∷ z)) =
    past_rest (suc at) (n - 1) z ∙ ap (λ k. tokens_from k 0 (drop (n - 1) z)) there ∙ ap (λ k. tokens_from (at + n) 0 (drop k (byte ∷ z))) (sym one) in
    rw (h, stray, whole) refl

-- the same at a place of a text
module _ (text : List ℕ) (at : ℕ) (within : at < length text) where
  here : drop at text ≡ get_or text at 0 ∷ drop (at + 1) text
  here = drop_more text at 0 within

  pub space_at : (get_or text at 0 == space) ≡ true → tokens_from at 0 (drop at text) ≡ tokens_from (at + 1) 0 (drop (at + 1) text)
  space_at h =
      let e : suc at ≡ at + 1 = omega arith in
      ap (tokens_from at 0) here ∙ past_space at (get_or text at 0) (drop (at + 1) text) h ∙ ap (λ k. tokens_from k 0 (drop (at + 1) text)) e

  pub stray_at : (get_or text at 0 == space) ≡ false → is_stray (lexeme (drop at text)).kind ≡ true
      → tokens_from at 0 (drop at text) ≡ token_at at (lexeme (drop at text)) ∷ []
  stray_at h stray =
      ap (tokens_from at 0) here ∙ past_stray at (get_or text at 0) (drop (at + 1) text) h (rw (here) at stray)
      ∙ ap (λ z. token_at at (lexeme z) ∷ []) (sym here)

  pub token_from : (get_or text at 0 == space) ≡ false → is_stray (lexeme (drop at text)).kind ≡ false → 1 ≤ (lexeme (drop at text)).length
      → tokens_from at 0 (drop at text) ≡ token_at at (lexeme (drop at text)) ∷ tokens_from (at + (lexeme (drop at text)).length) 0 (drop (at + (lexeme (drop at text)).length) text)
  token_from h stray some =
      let n = (lexeme (drop at text)).length in
      ap (tokens_from at 0) here ∙ past_token at (get_or text at 0) (drop (at + 1) text) h (rw (here) at stray) (rw (here) at some)
      ∙ ap (λ z. token_at at (lexeme z) ∷ tokens_from (at + (lexeme z).length) 0 (drop (lexeme z).length z)) (sym here)
      ∙ ap (λ z. token_at at (lexeme (drop at text)) ∷ tokens_from (at + n) 0 z) (drop-drop n at text)

-- one token more in the loop that cuts a text
module _ (text : List ℕ) (found : List Token) (at : ℕ) (token : Token)
    (so_far : found ++ tokens_from at 0 (drop at text) ≡ tokens_from 0 0 text) (within : at < length text) (no_space : get_or text at 0 ≡ space → ⊥)
    (is_token : token ≡ token_at at (lexeme (drop at text))) where
  solid : (get_or text at 0 == space) ≡ false
  solid = grind (arith, nat_tests)

  pub ends_stray : is_stray token.kind ≡ true → found ++ token ∷ [] ≡ tokens_from 0 0 text
  ends_stray stray =
      let there : is_stray (lexeme (drop at text)).kind ≡ true = rw (is_token) at stray in
      ap (λ t. found ++ t ∷ []) is_token ∙ ap (λ ts. found ++ ts) (sym (stray_at text at within solid there)) ∙ so_far

  pub goes_past : is_stray token.kind ≡ false → at < token.span.end
      → (found ++ token ∷ []) ++ tokens_from token.span.end 0 (drop token.span.end text) ≡ tokens_from 0 0 text
  goes_past stray longer =
      let there : is_stray (lexeme (drop at text)).kind ≡ false = rw (is_token) at stray in
      let n = (lexeme (drop at text)).length in
      let some : at < at + n = rw (is_token) at longer in
      let more = token_from text at within solid there (omega arith) in
      append_assoc found (token ∷ []) (tokens_from token.span.end 0 (drop token.span.end text))
      ∙ ap (λ t. found ++ t ∷ tokens_from t.span.end 0 (drop t.span.end text)) is_token ∙ ap (λ ts. found ++ ts) (sym more) ∙ so_far
