-- A name without the zeros at its end.
use Rattle.std.proofs.Common.{◌≡◌, ◌≢◌, ℕ, ◌+◌, ◌-◌, ◌<◌, ◌≤◌, Bool, cond, List, [], ◌∷◌, ◌++◌, length, take, get_or, refl, sym, subst, ap, ◌∙◌, arith}
use Rattle.std.proofs.lemmas.List.{take_more}
use Rattle.std.proofs.lemmas.Bool.{ne_eqb}
use Rattle.dpl_spec_format.specs.Fields.{in_front, name_of}

pub drops_zero : (bs : List ℕ) → name_of (bs ++ 0 ∷ []) ≡ name_of bs
unfolding name_of
drops_zero [] = refl
drops_zero (b ∷ bs) = ap (in_front b) (drops_zero bs)

goes_before : (b c : ℕ) (bs : List ℕ) → in_front b (bs ++ c ∷ []) ≡ b ∷ (bs ++ c ∷ [])
goes_before b c [] = refl
goes_before b c (d ∷ bs) = refl

pub keeps_last : (bs : List ℕ) (b : ℕ) → b ≢ 0 → name_of (bs ++ b ∷ []) ≡ bs ++ b ∷ []
unfolding name_of
keeps_last [] b ne = ap (λ (t : Bool). cond t [] (b ∷ [])) (ne_eqb b 0 ne)
keeps_last (c ∷ bs) b ne = ap (in_front c) (keeps_last bs b ne) ∙ goes_before c b bs

pub empty_name : name_of [] ≡ []
unfolding name_of
empty_name = refl

last_of : (bs : List ℕ) (len : ℕ) → 0 < len → len ≤ length bs → take len bs ≡ take (len - 1) bs ++ get_or bs (len - 1) 0 ∷ []
last_of bs len pos le =
    let e : (len - 1) + 1 ≡ len = omega arith in
    subst (λ (n : ℕ). take n bs ≡ take (len - 1) bs ++ get_or bs (len - 1) 0 ∷ []) e (take_more bs (len - 1) 0 (omega arith))

pub without_zero : (bs : List ℕ) (len : ℕ) → 0 < len → len ≤ length bs → get_or bs (len - 1) 0 ≡ 0 → name_of (take (len - 1) bs) ≡ name_of (take len bs)
without_zero bs len pos le zero =
    sym (ap name_of (last_of bs len pos le ∙ ap (λ (b : ℕ). take (len - 1) bs ++ b ∷ []) zero) ∙ drops_zero (take (len - 1) bs))

pub is_name : (bs : List ℕ) (len : ℕ) → 0 < len → len ≤ length bs → get_or bs (len - 1) 0 ≢ 0 → take len bs ≡ name_of (take len bs)
is_name bs len pos le ne =
    let e = last_of bs len pos le in
    e ∙ sym (ap name_of e ∙ keeps_last (take (len - 1) bs) (get_or bs (len - 1) 0) ne)

pub is_empty_name : (bs : List ℕ) (len : ℕ) → len ≤ 0 → take len bs ≡ name_of (take len bs)
is_empty_name bs len le =
    let e : 0 ≡ len = omega arith in
    subst (λ (n : ℕ). take n bs ≡ name_of (take n bs)) e (sym empty_name)
