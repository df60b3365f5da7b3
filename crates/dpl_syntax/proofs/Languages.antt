-- Which types can begin a list of a grammar, and what may follow behind them.
use Rattle.std.proofs.Common.{◌≡◌, ℕ, Bool, true, false, ◌⊎◌, inl, inr, List, [], ◌∷◌, ◌++◌, refl, sym, subst, ap, ◌∙◌, append_assoc}
use Rattle.std.specs.Prelude.{IsTrue}
use Rattle.std.specs.List.{flat_map, AllByRecursion}
use Rattle.std.proofs.lemmas.List.Concat.{flat_map-cons}
use Rattle.dpl_spec_format.specs.Grammar.{Grammar, one, both, either, maybe, many, Has}

-- no list of the grammar begins with this type
abbrev pub Avoids : Grammar → ℕ → Type 0
Avoids g k = (ks : List ℕ) → Has g (k ∷ ks) → ⊥

-- the empty list isn't one of the grammar
abbrev pub IsSolid : Grammar → Type 0
IsSolid g = Has g [] → ⊥

-- the grammar has a list
abbrev pub Exists : Grammar → Type 0
Exists g = (ks : List ℕ) × Has g ks

-- what a list in two parts begins with
abbrev BeginsIn : List ℕ → ℕ → List ℕ → List ℕ → Type 0
BeginsIn prefix k ks rest = ((prefix ≡ []) × (rest ≡ k ∷ ks)) ⊎ ((more : List ℕ) × (prefix ≡ k ∷ more) × (ks ≡ more ++ rest))

begins_in : (prefix rest ks : List ℕ) (k : ℕ) → k ∷ ks ≡ prefix ++ rest → BeginsIn prefix k ks rest
begins_in [] rest ks k e = inl (refl, sym e)
begins_in (j ∷ more) rest ks k e = inr (more, cc, cc)

-- ---- what a grammar avoids

untrue : (b : Bool) → b ≡ false → IsTrue b → ⊥
untrue b e h = absurd cc

pub avoids_one : (test : ℕ → Bool) (k : ℕ) → test k ≡ false → Avoids (one test) k
avoids_one test k fails ks h =
    let same : h.0 ≡ k = cc in
    untrue (test k) fails (subst (λ (j : ℕ). IsTrue (test j)) same h.2)

pub solid_one : (test : ℕ → Bool) → IsSolid (one test)
solid_one test h = absurd cc

pub avoids_both : (g h : Grammar) (k : ℕ) → IsSolid g → Avoids g k → Avoids (both g h) k
avoids_both g h k solid avoids ks (prefix, rest, e, hg, hh) =
    elim (begins_in prefix rest ks k e) [
      | inl p ↦ solid (subst (Has g) p.0 hg)
      | inr p ↦ avoids p.0 (subst (Has g) p.1 hg)
    ]

pub solid_both : (g h : Grammar) → IsSolid g → IsSolid (both g h)
solid_both g h solid ([], rest, e, hg, hh) = solid hg
solid_both g h solid ((k ∷ ks), rest, e, hg, hh) = absurd cc

-- a grammar that may be passed over
pub avoids_behind : (g h : Grammar) (k : ℕ) → Avoids g k → Avoids h k → Avoids (both g h) k
avoids_behind g h k avoids also ks (prefix, rest, e, hg, hh) =
    elim (begins_in prefix rest ks k e) [
      | inl p ↦ also ks (subst (Has h) p.1 hh)
      | inr p ↦ avoids p.0 (subst (Has g) p.1 hg)
    ]

pub avoids_maybe : (g : Grammar) (k : ℕ) → Avoids g k → Avoids (maybe g) k
avoids_maybe g k avoids ks (inl e) = absurd cc
avoids_maybe g k avoids ks (inr h) = avoids ks h

pub avoids_either : (g h : Grammar) (k : ℕ) → Avoids g k → Avoids h k → Avoids (either g h) k
avoids_either g h k first second ks (inl p) = first ks p
avoids_either g h k first second ks (inr p) = second ks p

pub solid_either : (g h : Grammar) → IsSolid g → IsSolid h → IsSolid (either g h)
solid_either g h first second (inl p) = first p
solid_either g h first second (inr p) = second p

abbrev joined : List (List ℕ) → List ℕ
joined parts = flat_map (λ part. part) parts

joined-cons : (part : List ℕ) (parts : List (List ℕ)) → joined (part ∷ parts) ≡ part ++ joined parts
joined-cons part parts = flat_map-cons (λ p. p) part parts

avoids_parts : (g : Grammar) (k : ℕ) → Avoids g k → (parts : List (List ℕ)) (ks : List ℕ) → k ∷ ks ≡ joined parts → AllByRecursion (Has g) parts → ⊥
avoids_parts g k avoids [] ks e all = absurd cc
avoids_parts g k avoids (part ∷ parts) ks e all =
    elim (begins_in part (joined parts) ks k (e ∙ joined-cons part parts)) [
      | inl p ↦ avoids_parts g k avoids parts ks (sym p.1) all.1
      | inr p ↦ avoids p.0 (subst (Has g) p.1 all.0)
    ]

pub avoids_many : (g : Grammar) (k : ℕ) → Avoids g k → Avoids (many g) k
avoids_many g k avoids ks h = avoids_parts g k avoids h.0 ks h.1 h.2

-- ---- what follows behind a type

-- behind this type the first grammar goes on as the second
pub record Moves (g : Grammar) (k : ℕ) (h : Grammar) : Type 0 where
  pub on : (ks : List ℕ) → Has g (k ∷ ks) → Has h ks
  pub back : (ks : List ℕ) → Has h ks → Has g (k ∷ ks)

-- what begins with this type is the same in both
pub record Agrees (g : Grammar) (k : ℕ) (h : Grammar) : Type 0 where
  pub on : (ks : List ℕ) → Has g (k ∷ ks) → Has h (k ∷ ks)
  pub back : (ks : List ℕ) → Has h (k ∷ ks) → Has g (k ∷ ks)

pub moves_agreed : (g h rest : Grammar) (k : ℕ) → Agrees g k h → Moves h k rest → Moves g k rest
moves_agreed g h rest k agrees moves = record { on = λ ks p. moves.on ks (agrees.on ks p); back = λ ks p. agrees.back ks (moves.back ks p) }

pub agrees_both : (g h i : Grammar) (k : ℕ) → Agrees g k h → Agrees h k i → Agrees g k i
agrees_both g h i k first second = record { on = λ ks p. second.on ks (first.on ks p); back = λ ks p. first.back ks (second.back ks p) }

one_on : (test : ℕ → Bool) (rest : Grammar) (k : ℕ) (ks : List ℕ) → Has (both (one test) rest) (k ∷ ks) → Has rest ks
one_on test rest k ks (prefix, others, e, hg, hh) =
    let same : others ≡ ks = cc in
    subst (Has rest) same hh

pub moves_one : (test : ℕ → Bool) (rest : Grammar) (k : ℕ) → test k ≡ true → Moves (both (one test) rest) k rest
moves_one test rest k passes = record {
  on = one_on test rest k;
  back = λ ks h. (k ∷ [], ks, refl, (k, refl, passes), h);
}

-- without the grammar that may be missing
maybe_skip_on : (g rest : Grammar) (k : ℕ) → Avoids g k → IsSolid g → (ks : List ℕ) → Has (both (maybe g) rest) (k ∷ ks) → Has rest (k ∷ ks)
maybe_skip_on g rest k avoids solid ks (prefix, others, e, inl none, hh) =
    let same : others ≡ k ∷ ks = cc in
    subst (Has rest) same hh
maybe_skip_on g rest k avoids solid ks (prefix, others, e, inr hg, hh) =
    elim (begins_in prefix others ks k e) [
      | inl p ↦ absurd (solid (subst (Has g) p.0 hg))
      | inr p ↦ absurd (avoids p.0 (subst (Has g) p.1 hg))
    ]

pub skips_maybe : (g rest : Grammar) (k : ℕ) → Avoids g k → IsSolid g → Agrees (both (maybe g) rest) k rest
skips_maybe g rest k avoids solid = record {
  on = maybe_skip_on g rest k avoids solid;
  back = λ ks h. ([], k ∷ ks, refl, inl refl, h);
}

maybe_take_on : (g rest : Grammar) (k : ℕ) → Avoids rest k → (ks : List ℕ) → Has (both (maybe g) rest) (k ∷ ks) → Has (both g rest) (k ∷ ks)
maybe_take_on g rest k avoids ks (prefix, others, e, inl none, hh) =
    let same : others ≡ k ∷ ks = cc in
    absurd (avoids ks (subst (Has rest) same hh))
maybe_take_on g rest k avoids ks (prefix, others, e, inr hg, hh) = (prefix, others, e, hg, hh)

pub takes_maybe : (g rest : Grammar) (k : ℕ) → Avoids rest k → Agrees (both (maybe g) rest) k (both g rest)
takes_maybe g rest k avoids = record {
  on = maybe_take_on g rest k avoids;
  back = λ ks h. (h.0, h.1, h.2, inr h.3, h.4);
}

-- one of two
either_on_first : (g h rest : Grammar) (k : ℕ) → Avoids h k → IsSolid h → (ks : List ℕ) → Has (both (either g h) rest) (k ∷ ks) → Has (both g rest) (k ∷ ks)
either_on_first g h rest k avoids solid ks (prefix, others, e, inl hg, hh) = (prefix, others, e, hg, hh)
either_on_first g h rest k avoids solid ks (prefix, others, e, inr hg, hh) =
    elim (begins_in prefix others ks k e) [
      | inl p ↦ absurd (solid (subst (Has h) p.0 hg))
      | inr p ↦ absurd (avoids p.0 (subst (Has h) p.1 hg))
    ]

either_on_second : (g h rest : Grammar) (k : ℕ) → Avoids g k → IsSolid g → (ks : List ℕ) → Has (both (either g h) rest) (k ∷ ks) → Has (both h rest) (k ∷ ks)
either_on_second g h rest k avoids solid ks (prefix, others, e, inr hg, hh) = (prefix, others, e, hg, hh)
either_on_second g h rest k avoids solid ks (prefix, others, e, inl hg, hh) =
    elim (begins_in prefix others ks k e) [
      | inl p ↦ absurd (solid (subst (Has g) p.0 hg))
      | inr p ↦ absurd (avoids p.0 (subst (Has g) p.1 hg))
    ]

pub takes_first : (g h rest : Grammar) (k : ℕ) → Avoids h k → IsSolid h → Agrees (both (either g h) rest) k (both g rest)
takes_first g h rest k avoids solid = record {
  on = either_on_first g h rest k avoids solid;
  back = λ ks p. (p.0, p.1, p.2, inl p.3, p.4);
}

pub takes_second : (g h rest : Grammar) (k : ℕ) → Avoids g k → IsSolid g → Agrees (both (either g h) rest) k (both h rest)
takes_second g h rest k avoids solid = record {
  on = either_on_second g h rest k avoids solid;
  back = λ ks p. (p.0, p.1, p.2, inr p.3, p.4);
}

-- any number of times
pub ends_many : (g rest : Grammar) (k : ℕ) → Avoids g k → Agrees (both (many g) rest) k rest
ends_many g rest k avoids = record {
  on = λ ks p. elim (begins_in p.0 p.1 ks k p.2) [
    | inl q ↦ subst (Has rest) q.1 p.4
    | inr q ↦ absurd (avoids_many g k avoids q.0 (subst (Has (many g)) q.1 p.3))
  ];
  back = λ ks p. ([], k ∷ ks, refl, ([], refl, tt), p);
}

many_on : (g rest : Grammar) (k : ℕ) → Avoids rest k → (parts : List (List ℕ)) → AllByRecursion (Has g) parts → (ks others : List ℕ)
    → k ∷ ks ≡ joined parts ++ others → Has rest others → Has (both g (both (many g) rest)) (k ∷ ks)
many_on g rest k avoids [] all ks others e h = absurd (avoids ks (subst (Has rest) (sym e) h))
many_on g rest k avoids ([] ∷ parts) all ks others e h = many_on g rest k avoids parts all.1 ks others e h
many_on g rest k avoids ((j ∷ part) ∷ parts) all ks others e h = (
  j ∷ part,
  joined parts ++ others,
  e ∙ ap (λ (t : List ℕ). t ++ others) (joined-cons (j ∷ part) parts) ∙ append_assoc (j ∷ part)
      (joined parts) others,
  all.0,
  (joined parts, others, refl, (parts, refl, all.1), h),
)

pub takes_many : (g rest : Grammar) (k : ℕ) → Avoids rest k → Agrees (both (many g) rest) k (both g (both (many g) rest))
takes_many g rest k avoids = record {
  on = λ ks p. many_on g rest k avoids p.3.0 p.3.2 ks p.1 (p.2 ∙ ap (λ (t : List ℕ). t ++ p.1) p.3.1) p.4;
  back = λ ks p. (
    p.0 ++ p.4.0,
    p.4.1,
    p.2 ∙ ap (λ (t : List ℕ). p.0 ++ t) p.4.2 ∙ sym (append_assoc p.0 p.4.0 p.4.1),
    (p.0 ∷ p.4.3.0, ap (λ (t : List ℕ). p.0 ++ t) p.4.3.1 ∙ sym (joined-cons p.0 p.4.3.0), (p.3, p.4.3.2)),
    p.4.4,
  );
}

-- three in a row
pub regroups : (g h rest : Grammar) (ks : List ℕ) → Has (both (both g h) rest) ks → Has (both g (both h rest)) ks
regroups g h rest ks p =
    (p.3.0, p.3.1 ++ p.1, p.2 ∙ ap (λ (t : List ℕ). t ++ p.1) p.3.2 ∙ append_assoc p.3.0 p.3.1 p.1, p.3.3, (p.3.1, p.1, refl, p.3.4, p.4))

pub regroups_back : (g h rest : Grammar) (ks : List ℕ) → Has (both g (both h rest)) ks → Has (both (both g h) rest) ks
regroups_back g h rest ks p =
    (p.0 ++ p.4.0, p.4.1, p.2 ∙ ap (λ (t : List ℕ). p.0 ++ t) p.4.2 ∙ sym (append_assoc p.0 p.4.0 p.4.1), (p.0, p.4.0, refl, p.3, p.4.3), p.4.4)

pub agrees_regrouped : (g h rest : Grammar) (k : ℕ) → Agrees (both (both g h) rest) k (both g (both h rest))
agrees_regrouped g h rest k = record { on = λ ks. regroups g h rest (k ∷ ks); back = λ ks. regroups_back g h rest (k ∷ ks) }

pub exists_regrouped : (g h rest : Grammar) → Exists (both (both g h) rest) → Exists (both g (both h rest))
exists_regrouped g h rest p = (p.0, regroups g h rest p.0 p.1)

pub exists_rest : (g rest : Grammar) → Exists (both g rest) → Exists rest
exists_rest g rest p = (p.1.1, p.1.4)

pub exists_both : (g rest : Grammar) → Exists g → Exists rest → Exists (both g rest)
exists_both g rest p q = (p.0 ++ q.0, (p.0, q.0, refl, p.1, q.1))
