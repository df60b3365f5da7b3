-- Tallies, link by link.
use Rattle.std.proofs.Common.{◌≡◌, ◌≢◌, ℕ, ◌+◌, ◌<◌, ◌≤◌, inl, inr, Bool, true, false, not, ◌&&◌, eqb, List, [], ◌∷◌, length, get_or, set, take, replicate, sym, refl, ap, ◌∙◌, subst, arith}
use Rattle.std.proofs.lemmas.Bool.{cases_eq, eq-eqb, ne_eqb}
use Rattle.std.proofs.lemmas.List.{get_or-set_same, get_or-set_other, get_or-replicate, length-set, length-take-le, length-replicate}
use Rattle.std.proofs.lemmas.List.Sums.{sum_by-cons, sum_by_more, sum_by-take-le}
use Rattle.dpl_spec_split.specs.Colours.{differ}
use Rattle.dpl_orient.specs.declared.links.Link.{Link}
use Rattle.dpl_orient.specs.declared.tallies.Tally.{Tally}
use Rattle.dpl_orient.specs.Links.{differs_by, count_from}
use Rattle.dpl_orient.specs.Tallies.{tally_of, tally_at, AreTallies, more_by, moved_by, count_to, AreMoved, AreCounted}
use Rattle.dpl_orient.proofs.Settling.{unit}
use Rattle.dpl_orient.proofs.Linked.{counted}

-- whether a link counts to a component
abbrev pub counted_to : List Bool → ℕ → Bool → Link → Bool
counted_to flips root wanted l = eqb l.to root && not (differ wanted (differs_by flips l))

pub same-tally : (t u : Tally) → t.differing ≡ u.differing → t.agreeing ≡ u.agreeing → t ≡ u
same-tally t u e f = let make : ℕ → ℕ → Tally = λ x y. record { differing = x; agreeing = y } in ap (λ x. make x t.agreeing) e ∙ ap (make u.differing) f

one-at-most : (a b : Bool) → unit (a && not (differ true b)) + unit (a && not (differ false b)) ≤ 1
one-at-most false b = omega arith
one-at-most true false = omega arith
one-at-most true true = omega arith

-- the two counts together
pub count-both : (flips : List Bool) (root : ℕ) (links : List Link) → count_from flips root true links + count_from flips root false links ≤ length links
count-both flips root [] = omega arith
count-both flips root (l ∷ links) =
    let here = one-at-most (eqb l.from root) (differs_by flips l) in
    let rest = count-both flips root links in
    let a = sum_by-cons (λ (x : Link). unit (counted flips root true x)) l links in
    let b = sum_by-cons (λ (x : Link). unit (counted flips root false x)) l links in
    omega (arith, here, rest, a, b)

more-counts : (b : Bool) (t u : Tally) → u.differing ≡ t.differing + unit (true && not (differ true b)) → u.agreeing ≡ t.agreeing + unit (true && not
    (differ false b)) → more_by b t ≡ u
more-counts true t u e f = same-tally _ u (let g : u.differing ≡ t.differing + 1 = e in sym g) (let g : u.agreeing ≡ t.agreeing + 0 = f in omega (arith, g))
more-counts false t u e f = same-tally _ u (let g : u.differing ≡ t.differing + 0 = e in omega (arith, g)) (let g : u.agreeing ≡ t.agreeing + 1 = f in sym g)

pub tallies-none : (flips : List Bool) (tallies : List Tally) → tallies ≡ replicate (length flips) (record { differing = 0; agreeing = 0 })
    → AreTallies [] flips tallies
tallies-none flips tallies is =
    let zero_tally : Tally = record { differing = 0; agreeing = 0 } in
    record {
      len = ap length is ∙ length-replicate (length flips) zero_tally;
      each = λ root l. ap (λ ts. tally_at ts root) is ∙ get_or-replicate (length flips) root zero_tally zero_tally l;
    }

module _ (links : List Link) (flips : List Bool) (tallies : List Tally) (k : ℕ) (l : Link) (within : k < length links) (is : l ≡ get_or links k l)
    (room : l.from < length tallies) (h : AreTallies (take k links) flips tallies) where
  count-step : (root : ℕ) (wanted : Bool) → count_from flips root wanted (take (k + 1) links) ≡ count_from flips root wanted (take k links) + unit
      (counted flips root wanted l)
  count-step root wanted = subst (λ x. count_from flips root wanted (take (k + 1) links) ≡ count_from flips root wanted (take k links) + unit
      (counted flips root wanted x)) (sym is)
      (sum_by_more (λ (x : Link). unit (counted flips root wanted x)) links k l within)

  abbrev counted_more : List Tally
  counted_more = set tallies l.from (more_by (differs_by flips l) (tally_at tallies l.from))

  tally-same : l.from < length flips → tally_at counted_more l.from ≡ tally_of flips (take (k + 1) links) l.from
  tally-same below =
      let d = count-step l.from true in
      let a = count-step l.from false in
      let before = h.each l.from below in
      get_or-set_same tallies l.from (more_by (differs_by flips l) (tally_at tallies l.from)) (record { differing = 0; agreeing = 0 }) room
      ∙ (ap (more_by (differs_by flips l)) before
      ∙ more-counts (differs_by flips l) (tally_of flips (take k links) l.from) (tally_of flips (take (k + 1) links) l.from)
      (subst (λ e. count_from flips l.from true (take (k + 1) links) ≡ count_from flips l.from true (take k links) + unit (e && not (differ true
      (differs_by flips l)))) (eq-eqb l.from l.from refl) d)
      (subst (λ e. count_from flips l.from false (take (k + 1) links) ≡ count_from flips l.from false (take k links) + unit (e && not (differ false
      (differs_by flips l)))) (eq-eqb l.from l.from refl) a))

  tally-other : (root : ℕ) → root < length flips → root ≢ l.from → tally_at counted_more root ≡ tally_of flips (take (k + 1) links) root
  tally-other root below other =
      let apart : eqb l.from root ≡ false = ne_eqb l.from root (λ e. other (sym e)) in
      let d : count_from flips root true (take (k + 1) links) ≡ count_from flips root true (take k links) + 0 =
      subst (λ e. count_from flips root true (take (k + 1) links) ≡ count_from flips root true (take k links) + unit (e && not (differ true
      (differs_by flips l)))) apart (count-step root true) in
      let a : count_from flips root false (take (k + 1) links) ≡ count_from flips root false (take k links) + 0 =
      subst (λ e. count_from flips root false (take (k + 1) links) ≡ count_from flips root false (take k links) + unit (e && not (differ false
      (differs_by flips l)))) apart (count-step root false) in
      get_or-set_other tallies l.from root (more_by (differs_by flips l) (tally_at tallies l.from)) (record { differing = 0; agreeing = 0 }) other
      ∙ (h.each root below ∙ same-tally (tally_of flips (take k links) root) (tally_of flips (take (k + 1) links) root) (omega (arith, d)) (omega (arith, a)))

  pub tallies-more : AreTallies (take (k + 1) links) flips (set tallies l.from (more_by (differs_by flips l) (tally_at tallies l.from)))
  tallies-more = record {
    len = length-set tallies l.from (more_by (differs_by flips l) (tally_at tallies l.from)) ∙ h.len;
    each = λ root below. elim (cases_eq root l.from) [
      | inl same ↦ (let e : l.from ≡ root = sym same in subst (λ r. tally_at counted_more r ≡ tally_of flips (take (k + 1) links) r) e (tally-same
          (subst (λ r. r < length flips) same below)))
      | inr other ↦ tally-other root below other
    ];
  }

  pub tally-few : l.from < length flips → (tally_at tallies l.from).differing + (tally_at tallies l.from).agreeing ≤ k
  tally-few below =
      let e = count-both flips l.from (take k links) in
      let many = length-take-le k links (omega (arith, within)) in
      let d : (tally_at tallies l.from).differing ≡ count_from flips l.from true (take k links) = ap (λ t. t.differing) (h.each l.from below) in
      let a : (tally_at tallies l.from).agreeing ≡ count_from flips l.from false (take k links) = ap (λ t. t.agreeing) (h.each l.from below) in
      omega (arith, e, many, d, a)

moved-counts : (b : Bool) (t old : Tally) (cf ct cf' ct' : ℕ) → t.differing + cf ≡ old.differing + ct → t.agreeing + ct ≡ old.agreeing + cf
    → cf' ≡ cf + unit (true && not (differ false b)) → ct' ≡ ct + unit (true && not (differ true b)) → cf' ≤ old.differing → ct' ≤ old.agreeing
    → ((moved_by b t).differing + cf' ≡ old.differing + ct') × ((moved_by b t).agreeing + ct' ≡ old.agreeing + cf')
moved-counts true t old cf ct cf' ct' d a ef et lf lt =
    let gf : cf' ≡ cf + 0 = ef in
    let gt : ct' ≡ ct + 1 = et in
    (omega (arith, d, a, gf, gt, lf, lt), omega (arith, d, a, gf, gt, lf, lt))
moved-counts false t old cf ct cf' ct' d a ef et lf lt =
    let gf : cf' ≡ cf + 1 = ef in
    let gt : ct' ≡ ct + 0 = et in
    (omega (arith, d, a, gf, gt, lf, lt), omega (arith, d, a, gf, gt, lf, lt))

room-counts : (b : Bool) (t old : Tally) (cf ct cf' ct' : ℕ) → t.differing + cf ≡ old.differing + ct → t.agreeing + ct ≡ old.agreeing + cf
    → cf' ≡ cf + unit (true && not (differ false b)) → ct' ≡ ct + unit (true && not (differ true b)) → cf' ≤ old.differing → ct' ≤ old.agreeing
    → (b ≡ true → 0 < t.agreeing) × (b ≡ false → 0 < t.differing)
room-counts true t old cf ct cf' ct' d a ef et lf lt =
    let gf : cf' ≡ cf + 0 = ef in
    let gt : ct' ≡ ct + 1 = et in
    ((λ e. omega (arith, d, a, gf, gt, lf, lt)), λ e. absurd (cc))
room-counts false t old cf ct cf' ct' d a ef et lf lt =
    let gf : cf' ≡ cf + 1 = ef in
    let gt : ct' ≡ ct + 0 = et in
    ((λ e. absurd (cc)), λ e. omega (arith, d, a, gf, gt, lf, lt))

module _ (flips : List Bool) (links : List Link) (old tallies : List Tally) (k : ℕ) (l : Link) (within : k < length links) (is : l ≡ get_or links k l)
    (room : l.to < length tallies) (few : AreCounted flips links old) (h : AreMoved flips (take k links) old tallies) where
  to-step : (root : ℕ) (wanted : Bool) → count_to flips root wanted (take (k + 1) links) ≡ count_to flips root wanted (take k links) + unit
      (counted_to flips root wanted l)
  to-step root wanted = subst (λ x. count_to flips root wanted (take (k + 1) links) ≡ count_to flips root wanted (take k links) + unit
      (counted_to flips root wanted x)) (sym is)
      (sum_by_more (λ (x : Link). unit (counted_to flips root wanted x)) links k l within)

  here-step : (wanted : Bool) → count_to flips l.to wanted (take (k + 1) links) ≡ count_to flips l.to wanted (take k links) + unit (true && not
      (differ wanted (differs_by flips l)))
  here-step wanted = subst (λ e. count_to flips l.to wanted (take (k + 1) links) ≡ count_to flips l.to wanted (take k links) + unit (e && not
      (differ wanted (differs_by flips l))))
      (eq-eqb l.to l.to refl) (to-step l.to wanted)

  other-step : (root : ℕ) (wanted : Bool) → root ≢ l.to → count_to flips root wanted (take (k + 1) links) ≡ count_to flips root wanted (take k links) + 0
  other-step root wanted other = subst (λ e. count_to flips root wanted (take (k + 1) links) ≡ count_to flips root wanted (take k links) + unit
      (e && not (differ wanted (differs_by flips l))))
      (ne_eqb l.to root (λ e. other (sym e))) (to-step root wanted)

  below-whole : (root : ℕ) (wanted : Bool) → count_to flips root wanted (take (k + 1) links) ≤ count_to flips root wanted links
  below-whole root wanted = sum_by-take-le (λ (x : Link). unit (counted_to flips root wanted x)) links (k + 1)

  abbrev b : Bool
  b = differs_by flips l

  abbrev moved : List Tally
  moved = set tallies l.to (moved_by b (tally_at tallies l.to))

  here-both : ((moved_by b (tally_at tallies l.to)).differing + count_to flips l.to false (take (k + 1) links) ≡
      (tally_at old l.to).differing + count_to flips l.to true (take (k + 1) links))
      × ((moved_by b (tally_at tallies l.to)).agreeing + count_to flips l.to true (take (k + 1) links) ≡
      (tally_at old l.to).agreeing + count_to flips l.to false (take (k + 1) links))
  here-both = moved-counts b (tally_at tallies l.to) (tally_at old l.to) _ _ _ _ (h.differing l.to) (h.agreeing l.to) (here-step false) (here-step true)
      (let x = below-whole l.to false in let y = few.differing l.to in omega (arith, x, y)) (let x = below-whole l.to true in
      let y = few.agreeing l.to in omega (arith, x, y))

  pub moved-room : (b ≡ true → 0 < (tally_at tallies l.to).agreeing) × (b ≡ false → 0 < (tally_at tallies l.to).differing)
  moved-room = room-counts b (tally_at tallies l.to) (tally_at old l.to) _ _ _ _ (h.differing l.to) (h.agreeing l.to) (here-step false) (here-step true)
      (let x = below-whole l.to false in let y = few.differing l.to in omega (arith, x, y)) (let x = below-whole l.to true in
      let y = few.agreeing l.to in omega (arith, x, y))

  moved-here : tally_at moved l.to ≡ moved_by b (tally_at tallies l.to)
  moved-here = get_or-set_same tallies l.to (moved_by b (tally_at tallies l.to)) (record { differing = 0; agreeing = 0 }) room

  pub moved-other : (root : ℕ) → root ≢ l.to → tally_at moved root ≡ tally_at tallies root
  moved-other root other = get_or-set_other tallies l.to root (moved_by b (tally_at tallies l.to)) (record { differing = 0; agreeing = 0 }) other

  pub moved-more : AreMoved flips (take (k + 1) links) old moved
  moved-more = record {
    len = length-set tallies l.to (moved_by b (tally_at tallies l.to)) ∙ h.len;
    differing = λ root. elim (cases_eq root l.to) [
      | inl same ↦ (let P : ℕ → Type 0 = λ r. (tally_at moved r).differing + count_to flips r false (take (k + 1) links) ≡
          (tally_at old r).differing + count_to flips r true (take (k + 1) links) in
          subst P (sym same) (ap (λ t. t.differing + count_to flips l.to false (take (k + 1) links)) moved-here ∙ here-both.0))
      | inr other ↦ (let e : (tally_at moved root).differing ≡ (tally_at tallies root).differing = ap (λ t. t.differing) (moved-other root other) in
          let x = other-step root false other in let y = other-step root true other in let z = h.differing root in omega (arith, e, x, y, z))
    ];
    agreeing = λ root. elim (cases_eq root l.to) [
      | inl same ↦ (let P : ℕ → Type 0 = λ r. (tally_at moved r).agreeing + count_to flips r true (take (k + 1) links) ≡
          (tally_at old r).agreeing + count_to flips r false (take (k + 1) links) in
          subst P (sym same) (ap (λ t. t.agreeing + count_to flips l.to true (take (k + 1) links)) moved-here ∙ here-both.1))
      | inr other ↦ (let e : (tally_at moved root).agreeing ≡ (tally_at tallies root).agreeing = ap (λ t. t.agreeing) (moved-other root other) in
          let x = other-step root false other in let y = other-step root true other in let z = h.agreeing root in omega (arith, e, x, y, z))
    ];
  }
