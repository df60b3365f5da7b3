-- A typed getter of `clap` reads the number that the text writes.
use Rattle.std.proofs.Common.{◌≡◌, ◌∙◌, ◌∷◌, [], ℕ, Bool, List, true, false, inl, inr, refl, sym, ap, unwrap_or, Some, None, Option, ◌<◌, ◌^◌, ◌&&◌, nat_lt, is_some}
use Rattle.std.specs.Prelude.{Ok, Err, Result, IsSome, codes}
use Rattle.std.proofs.lemmas.Bool.{ltb-true, lt-ltb}
use Rattle.std.specs.List.{list_all}
use Rattle.std.specs.Char.{digit_value}
use Rattle.std.specs.Str.Parse.{AllDigits, ExplainsUnsignedError, HasUnsignedDigitsIfOk, IsNumeral, ParsesUnsigned, digits_value, without_leading_plus}
use Rattle.clap.specs.ValueTests.{is_numeral}
use Rattle.clap.specs.Matches.{ReadsOne, one_text}
use Rattle.clap.specs.Walk.{Text, one_of, rows_of}
use Rattle.clap.specs.declared.parser.matches.Found.{Found}
use Rattle.clap.proofs.WalkLemmas.{both, one_text-rows}
use Rattle.dpl_words.specs.Meaning.{flag_in, number_at, number_below, says_given}
use Rattle.dpl_words.specs.Ranges.{IsFlagText}

digits_from : (ds : List ℕ) → list_all (λ d. nat_lt (digit_value d) 10) ds ≡ true → AllDigits 10 ds
digits_from [] e = tt
digits_from (d ∷ ds) e =
    let parts = both _ _ e in
    (ltb-true _ _ parts.0, digits_from ds parts.1)

digits_back : (ds : List ℕ) → AllDigits 10 ds → list_all (λ d. nat_lt (digit_value d) 10) ds ≡ true
digits_back [] h = refl
digits_back (d ∷ ds) h = rw (lt-ltb (digit_value d) 10 h.0) (digits_back ds h.1)

-- the test of a text
abbrev pub is_below : ℕ → Text → Bool
is_below k text = is_numeral (without_leading_plus text) && nat_lt (digits_value 10 (without_leading_plus text)) (2 ^ k)

pub below_from : (k : ℕ) (text : Text) → is_below k text ≡ true → IsNumeral 10 (without_leading_plus text) × (digits_value 10 (without_leading_plus text) < 2 ^ k)
below_from k text e =
    let a = both _ _ e in
    let b = both _ _ a.0 in
    ((ltb-true _ _ b.0, digits_from _ b.1), ltb-true _ _ a.1)

pub below_back : (k : ℕ) (text : Text) → IsNumeral 10 (without_leading_plus text) × (digits_value 10 (without_leading_plus text) < 2 ^ k) → is_below k text ≡ true
below_back k text h = rw (lt-ltb _ _ h.0.0, digits_back _ h.0.1, lt-ltb _ _ h.1) refl

-- a typed getter reads the number of a text
pub reads : {E : Type 0} (k : ℕ) (G : List ℕ → Result ℕ E → Type 0) (t : Text) (r : Option ℕ)
    → ((x : Result ℕ E) → G t x → ParsesUnsigned k 10 t x) → ReadsOne G t r → r ≡ number_below k t
reads k G t (Some v) only h =
    let p = only (Ok v) h in
    rw (below_back k t p.0, p.1) refl
reads {E} k G t None only h =
    let p = only (Err h.0) h.1 in
    go (is_below k t) refl p
  where
    go : (b : Bool) → is_below k t ≡ b → (IsNumeral 10 (without_leading_plus t) × (digits_value 10 (without_leading_plus t) < 2 ^ k) → ⊥) → None ≡ number_below k t
    go true e p = absurd (p (below_from k t e))
    go false e p = rw e refl

given : says_given (Some (codes "true")) ≡ true
given = refl

left_out : says_given (Some (codes "false")) ≡ false
left_out = refl

-- what `get_one` reads of an id
pub got : {E : Type 0} (k : ℕ) (G : List ℕ → Result ℕ E → Type 0) (f : Found) (id : Text) (r : Option ℕ) → ((t : Text) (x : Result ℕ E) → G t x → ParsesUnsigned k 10 t x)
    → (one_text f id ≡ None → r ≡ None) → ((t : Text) → one_text f id ≡ Some t → ReadsOne G t r) → r ≡ number_at k id (rows_of f)
got {E} k G f id r only none value = go (one_text f id) refl
  where
    go : (o : Option Text) → one_text f id ≡ o → r ≡ number_at k id (rows_of f)
    go None e = none e ∙ sym (rw (← one_text-rows f id, e) refl)
    go (Some t) e = reads k G t r (only t) (value t e) ∙ sym (rw (← one_text-rows f id, e) refl)

-- what `get_one` reads of an id as an unsigned number of so many bits
pub unsigned_got : (k : ℕ) (f : Found) (id : Text) (r : Option ℕ) → (one_text f id ≡ None → r ≡ None)
    → ((t : Text) → one_text f id ≡ Some t
    → ReadsOne (λ bs x. ParsesUnsigned k 10 bs x × ExplainsUnsignedError 10 bs x × HasUnsignedDigitsIfOk bs x) t r)
    → r ≡ number_at k id (rows_of f)
unsigned_got k f id r none value = got k (λ bs x. ParsesUnsigned k 10 bs x × ExplainsUnsignedError 10 bs x × HasUnsignedDigitsIfOk bs x) f id r (λ t x g. g.0) none value

-- what `get_flag` reads of an id
pub flag_got : (f : Found) (id : Text) (r : Bool) → IsFlagText (one_of id (rows_of f)) → (one_text f id ≡ Some (codes "true") → r ≡ true)
    → (one_text f id ≡ Some (codes "false") → r ≡ false) → r ≡ flag_in id (rows_of f)
flag_got f id r there on off = go (one_of id (rows_of f)) refl there
  where
    go : (o : Option Text) → one_of id (rows_of f) ≡ o → IsFlagText o → r ≡ flag_in id (rows_of f)
    go None e there = absurd there
    go (Some t) e (inl is) =
        let here : one_of id (rows_of f) ≡ Some (codes "true") = e ∙ ap (λ (x : Text). Some x) is in
        on (one_text-rows f id ∙ here) ∙ sym (ap says_given here ∙ given)
    go (Some t) e (inr is) =
        let here : one_of id (rows_of f) ≡ Some (codes "false") = e ∙ ap (λ (x : Text). Some x) is in
        off (one_text-rows f id ∙ here) ∙ sym (ap says_given here ∙ left_out)

-- a number that is there is read
pub is_there : (r o : Option ℕ) → r ≡ o → is_some o ≡ true → IsSome r
is_there r o same there = ap is_some same ∙ there

-- and its value is the number
pub number_read : (r o : Option ℕ) (n : ℕ) → r ≡ o → r ≡ Some n → n ≡ unwrap_or o 0
number_read r o n same is = ap (λ (o : Option ℕ). unwrap_or o 0) (sym is ∙ same)
