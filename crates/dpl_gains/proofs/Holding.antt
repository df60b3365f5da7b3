-- Components with marked pieces, gathered piece by piece.
use Rattle.std.proofs.Common.{◌≡◌, ◌↔◌, ℕ, ◌+◌, ◌<◌, inl, inr, Bool, true, false, List, length, get_or, set, [], replicate, sym, ap, ◌∙◌, subst, arith}
use Rattle.std.proofs.lemmas.Bool.{cases_eq, cases_lt, false≢true}
use Rattle.std.proofs.lemmas.List.{get_or-set_same, get_or-set_other, get_or-replicate, get_or_past, length-set, length-replicate}
use Rattle.dpl_spec_split.specs.declared.Rect.{Rect}
use Rattle.dpl_spec_split.specs.Squares.{Covers}
use Rattle.dpl_spec_split.specs.Zones.{part_at}
use Rattle.dpl_spec_split.specs.Marks.{HasSome}
use Rattle.dpl_spec_split.proofs.MarkLaws.{none-marked}
use Rattle.dpl_gains.specs.Held.{IsHeldBelow}

pub record AreHeldBelow (parts : List (List Rect)) (roots : List ℕ) (set : List Rect) (n : ℕ) (held : List Bool) : Type 0 where
  pub len : length held ≡ length roots
  pub each : (root : ℕ) → (get_or held root false ≡ true) ↔ IsHeldBelow parts roots set n root

none-true : (n root : ℕ) → get_or (replicate n false) root false ≡ false
none-true n root = elim (cases_lt root n) [
  | inl lt ↦ get_or-replicate n root false false lt
  | inr ge ↦ get_or_past (replicate n false) root false (rw length-replicate ge)
]

pub held-none : (parts : List (List Rect)) (roots : List ℕ) (set : List Rect) (held : List Bool) → held ≡ replicate (length roots) false
    → AreHeldBelow parts roots set 0 held
held-none parts roots set held is = record {
  len = ap length is ∙ length-replicate (length roots) false;
  each = λ root. (
    λ e. absurd (false≢true (sym (none-true (length roots) root) ∙ (ap (λ (xs : List Bool). get_or xs root false) (sym is) ∙ e))),
    λ h. absurd (omega (arith, h.1)),
  );
}

-- where the set has no squares, no component is held, however many pieces there are
pub held-empty : (parts : List (List Rect)) (roots : List ℕ) (set : List Rect) (held : List Bool) (n : ℕ) → set ≡ [] → held ≡ replicate (length roots) false
    → AreHeldBelow parts roots set n held
held-empty parts roots set held n empty is = record {
  len = (held-none parts roots set held is).len;
  each = λ root. (
    λ e. absurd (false≢true (sym (none-true (length roots) root) ∙ (ap (λ (xs : List Bool). get_or xs root false) (sym is) ∙ e))),
    λ (k, l, at, (p, mine, on)). absurd (elim ((none-marked set empty p).0 on) [ inl a ↦ a | inr b ↦ b ]),
  );
}

module _ (parts : List (List Rect)) (roots : List ℕ) (marked : List Rect) (k : ℕ) (held : List Bool) (h : AreHeldBelow parts roots marked k held) where
  weaker : (root : ℕ) → IsHeldBelow parts roots marked k root → IsHeldBelow parts roots marked (k + 1) root
  weaker root (j, l, is, some) = (j, omega (arith, l), is, some)

  pub held-pass : (HasSome (part_at parts k) (Covers marked) → ⊥) → AreHeldBelow parts roots marked (k + 1) held
  held-pass none = record {
    len = h.len;
    each = λ root. (
      λ e. weaker root ((h.each root).0 e),
      λ (j, l, is, some). elim (cases_eq j k) [
        | inl e ↦ absurd (none (subst (λ (m : ℕ). HasSome (part_at parts m) (Covers marked)) e some))
        | inr ne ↦ (h.each root).1 (j, omega (arith, l, ne), is, some)
      ],
    );
  }

  module _ (below : get_or roots k 0 < length roots) (some : HasSome (part_at parts k) (Covers marked)) where
    at-root : (root : ℕ) → get_or roots k 0 ≡ root → get_or (set held (get_or roots k 0) true) root false ≡ true
    at-root root e = subst (λ (m : ℕ). get_or (set held (get_or roots k 0) true) m false ≡ true) e
        (get_or-set_same held (get_or roots k 0) true false (let n = h.len in omega (arith, below, n)))

    else-root : (root : ℕ) → (root ≡ get_or roots k 0 → ⊥) → get_or (set held (get_or roots k 0) true) root false ≡ get_or held root false
    else-root root ne = get_or-set_other held (get_or roots k 0) root true false ne

    pub held-more : AreHeldBelow parts roots marked (k + 1) (set held (get_or roots k 0) true)
    held-more = record {
      len = length-set held (get_or roots k 0) true ∙ h.len;
      each = λ root. (
        λ e. elim (cases_eq root (get_or roots k 0)) [
          | inl is ↦ (k, omega arith, sym is, some)
          | inr ne ↦ weaker root ((h.each root).0 (sym (else-root root ne) ∙ e))
        ],
        λ (j, l, is, has). elim (cases_eq root (get_or roots k 0)) [
          | inl e ↦ at-root root (sym e)
          | inr ne ↦ else-root root ne ∙ (h.each root).1
              (j, elim (cases_eq j k) [ inl f ↦ absurd (ne (sym is ∙ ap (λ (m : ℕ). get_or roots m 0) f)) | inr nf ↦ omega (arith, l, nf) ], is, has)
        ],
      );
    }
