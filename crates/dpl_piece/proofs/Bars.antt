-- What holes that cut right across a bar leave of it are the rectangles between them.
use Rattle.std.proofs.Common.{◌≡◌, ℕ, suc, zero, ◌+◌, ◌<◌, ◌⊎◌, inl, inr, List, [], ◌∷◌, ◌++◌, length, get_or, map, take, sym, ap, refl, ◌∙◌, subst, arith}
use Rattle.std.specs.Prelude.{◌↔◌, pos, ◌≤ℤ◌, ◌<ℤ◌}
use Rattle.std.specs.List.{All, AllPairs}
use Rattle.std.proofs.lemmas.Bool.{cases_eq, cases_lt}
use Rattle.std.proofs.lemmas.Int.{ints, by_lt_z}
use Rattle.std.proofs.lemmas.List.{get_or_default, get_or-map, length-map}
use Rattle.std.proofs.lemmas.List.Elements.{All-push, All-contains, Contains-get_or}
use Rattle.std.proofs.lemmas.List.Quantifiers.{all_pairs_push}
use Rattle.std.proofs.Math.Seq.{take-suc}
use Rattle.dpl_spec_split.specs.declared.Pt.{Pt}
use Rattle.dpl_spec_split.specs.declared.Rect.{Rect}
use Rattle.dpl_spec_split.specs.Squares.{Region, SameSquares, Covers, Has, Touch}
use Rattle.dpl_spec_split.specs.Slabs.{IsCanonical, IsSolid}
use Rattle.dpl_spec_split.specs.Loops.{farthest, AreRectsWithin, IsRectWithin}
use Rattle.dpl_spec_split.specs.Components.{Linked, here, on, component, ComesFirst, AreComponents}
use Rattle.dpl_spec_split.specs.Zones.{at}
use Rattle.dpl_spec_split.proofs.ComponentLaws.{Linked-start}
use Rattle.dpl_spec_split.proofs.SlabLaws.{member-Covers, IsLeast-first}
use Rattle.dpl_spec_split.proofs.SquareLaws.{SameSquares-refl, Touch-sym}
use Rattle.dpl_spec_split.proofs.ZoneLaws.{close-from_touch}
use Rattle.dpl_slabs.specs.Parts.{AreParts, union_of}
use Rattle.dpl_slabs.proofs.LoopLaws.{covers-pushed}
use Rattle.dpl_feature.proofs.Dealing.{canonical-one}
use Rattle.dpl_feature.proofs.Links.{linked-within}
use Rattle.dpl_piece.specs.Bars.{AreHalves, CutsAcross, CutsAlong}
use Rattle.dpl_piece.specs.Pieces.{left_of, AreBroken}

-- a column or a row lies between the two, and b is not below a
abbrev pub Precede : Rect → Rect → Type 0
Precede a b = ((a.x1 <ℤ b.x0) × (a.y0 ≤ℤ b.y0)) ⊎ (a.y1 <ℤ b.y0)

abbrev pub alone : Rect → List Rect
alone r = r ∷ []

-- some holes leave these rectangles of a bar, and one more that no other hole has cut yet
pub record AreBarsBelow (bar : Rect) (holes done : List Rect) (rest : Rect) : Type 0 where
  pub solid : All IsSolid done
  pub within : All (IsRectWithin farthest) done
  pub apart : AllPairs Precede done
  pub rest_solid : IsSolid rest
  pub rest_within : IsRectWithin farthest rest
  pub after : All (λ d. Precede d rest) done
  pub all : (p : Pt) → Has bar p → ¬ Covers holes p → Covers done p ⊎ Has rest p
  pub free : (p : Pt) → Covers done p ⊎ Has rest p → Has bar p × ¬ Covers holes p

-- two such rectangles have no square in common, nor squares that touch
precede-untouched : (a b : Rect) (p q : Pt) → Precede a b → Has a p → Has b q → Touch p q → ⊥
precede-untouched a b p q before in_a in_b touch =
    let close = close-from_touch p q touch in
    elim before [
      | inl (l, low) ↦ omega (arith, ints, l, in_a.right, in_b.left, close.left)
      | inr l ↦ omega (arith, ints, l, in_a.high, in_b.low, close.low)
    ]

precede-apart : (a b : Rect) (p : Pt) → Precede a b → Has a p → Has b p → ⊥
precede-apart a b p before in_a in_b = elim before [
  | inl (l, low) ↦ omega (arith, ints, l, in_a.right, in_b.left)
  | inr l ↦ omega (arith, ints, l, in_a.high, in_b.low)
]

pub bars-none : (bar : Rect) → IsSolid bar → IsRectWithin farthest bar → AreBarsBelow bar [] [] bar
bars-none bar solid within = record {
  solid = λ k d k_in. absurd (omega (arith, k_in));
  within = λ k d k_in. absurd (omega (arith, k_in));
  apart = λ i j d l j_in. absurd (omega (arith, j_in));
  rest_solid = solid;
  rest_within = within;
  after = λ k d k_in. absurd (omega (arith, k_in));
  all = λ p in_bar none. inr in_bar;
  free = λ p h. elim h [
    | inl (k, r, k_in, is, has) ↦ absurd (omega (arith, k_in))
    | inr in_bar ↦ (in_bar, λ (k, r, k_in, is, has). omega (arith, k_in))
  ];
}

-- the two halves of what is left of a bar
pub record AreCut (rest hole before after : Rect) : Type 0 where
  pub before_solid : IsSolid before
  pub after_solid : IsSolid after
  pub before_within : IsRectWithin farthest before
  pub after_within : IsRectWithin farthest after
  pub apart : Precede before after
  pub earlier : (d : Rect) → Precede d rest → Precede d before × Precede d after
  pub parted : (p : Pt) → Has rest p → ¬ Has hole p → Has before p ⊎ Has after p
  pub from_before : (p : Pt) → Has before p → Has rest p × ¬ Has hole p
  pub from_after : (p : Pt) → Has after p → Has rest p × ¬ Has hole p
  pub inside : (p : Pt) → Has hole p → Has rest p

cut-across : (rest hole : Rect) → IsSolid rest → IsRectWithin farthest rest → IsRectWithin farthest hole → CutsAcross rest hole
    → AreCut rest hole (record rest { x1 = hole.x0 }) (record rest { x0 = hole.x1 })
cut-across rest hole solid within hole_in c = record {
  before_solid = record { wide = c.left; tall = solid.tall };
  after_solid = record { wide = c.right; tall = solid.tall };
  before_within = record { left = within.left; low = within.low; right = hole_in.left; high = within.high };
  after_within = record { left = hole_in.right; low = within.low; right = within.right; high = within.high };
  apart = inl (c.wide, omega (arith, ints));
  earlier = λ d h. elim h [
    | inl (l, low) ↦ (inl (l, low), inl (omega (arith, ints, l, c.left, c.wide), low))
    | inr l ↦ (inr l, inr l)
  ];
  parted = λ p h none. by_lt_z p.x hole.x0
      (λ l. inl (record { left = h.left; right = l; low = h.low; high = h.high }))
      (λ m. by_lt_z p.x hole.x1
      (λ l. absurd (none (record { left = m; right = l; low = omega (arith, ints, h.low, c.low); high = omega (arith, ints, h.high, c.high) })))
      (λ n. inr (record { left = n; right = h.right; low = h.low; high = h.high })));
  from_before = λ p h. (
    record { left = h.left; right = omega (arith, ints, h.right, c.wide, c.right); low = h.low; high = h.high },
    λ in_hole. omega (arith, ints, h.right, in_hole.left),
  );
  from_after = λ p h. (
    record { left = omega (arith, ints, h.left, c.left, c.wide); right = h.right; low = h.low; high = h.high },
    λ in_hole. omega (arith, ints, h.left, in_hole.right),
  );
  inside = λ p h. record {
    left = omega (arith, ints, h.left, c.left);
    right = omega (arith, ints, h.right, c.right);
    low = omega (arith, ints, h.low, c.low);
    high = omega (arith, ints, h.high, c.high);
  };
}

cut-along : (rest hole : Rect) → IsSolid rest → IsRectWithin farthest rest → IsRectWithin farthest hole → CutsAlong rest hole
    → AreCut rest hole (record rest { y1 = hole.y0 }) (record rest { y0 = hole.y1 })
cut-along rest hole solid within hole_in c = record {
  before_solid = record { wide = solid.wide; tall = c.low };
  after_solid = record { wide = solid.wide; tall = c.high };
  before_within = record { left = within.left; low = within.low; right = within.right; high = hole_in.low };
  after_within = record { left = within.left; low = hole_in.high; right = within.right; high = within.high };
  apart = inr c.tall;
  earlier = λ d h. elim h [
    | inl (l, low) ↦ (inl (l, low), inl (l, omega (arith, ints, low, c.low, c.tall)))
    | inr l ↦ (inr l, inr (omega (arith, ints, l, c.low, c.tall)))
  ];
  parted = λ p h none. by_lt_z p.y hole.y0
      (λ l. inl (record { left = h.left; right = h.right; low = h.low; high = l }))
      (λ m. by_lt_z p.y hole.y1
      (λ l. absurd (none (record { left = omega (arith, ints, h.left, c.left); right = omega (arith, ints, h.right, c.right); low = m; high = l })))
      (λ n. inr (record { left = h.left; right = h.right; low = n; high = h.high })));
  from_before = λ p h. (
    record { left = h.left; right = h.right; low = h.low; high = omega (arith, ints, h.high, c.tall, c.high) },
    λ in_hole. omega (arith, ints, h.high, in_hole.low),
  );
  from_after = λ p h. (
    record { left = h.left; right = h.right; low = omega (arith, ints, h.low, c.low, c.tall); high = h.high },
    λ in_hole. omega (arith, ints, h.low, in_hole.high),
  );
  inside = λ p h. record {
    left = omega (arith, ints, h.left, c.left);
    right = omega (arith, ints, h.right, c.right);
    low = omega (arith, ints, h.low, c.low);
    high = omega (arith, ints, h.high, c.high);
  };
}

pub are-cut : (rest hole before after : Rect) → IsSolid rest → IsRectWithin farthest rest → IsRectWithin farthest hole → AreHalves rest hole before after
    → AreCut rest hole before after
are-cut rest hole before after solid within hole_in (inl (c, b, a)) = rw (b, a) (cut-across rest hole solid within hole_in c)
are-cut rest hole before after solid within hole_in (inr (c, b, a)) = rw (b, a) (cut-along rest hole solid within hole_in c)

pushed : (rs : List Rect) (r : Rect) (p : Pt) → Covers (rs ++ r ∷ []) p ↔ (Covers rs p ⊎ Has r p)
pushed rs r p = covers-pushed (Has r) rs r (SameSquares-refl (Has r)) p

-- one more hole
module _ (bar : Rect) (holes done : List Rect) (rest hole before after : Rect) (h : AreBarsBelow bar holes done rest) (c : AreCut rest hole before after) where
  clear : (p : Pt) → Covers done p → ¬ Has hole p
  clear p covered in_hole =
      let (d, d_in, has) = member-Covers done p covered in
      precede-apart d rest p (All-contains (λ d. Precede d rest) done d h.after d_in) has (c.inside p in_hole)

  none-more : (p : Pt) → ¬ Covers holes p → ¬ Has hole p → ¬ Covers (holes ++ hole ∷ []) p
  none-more p none other covered = elim ((pushed holes hole p).0 covered) [ inl a ↦ none a | inr b ↦ other b ]

  from-rest : (p : Pt) → Has rest p → ¬ Has hole p → Has bar p × ¬ Covers (holes ++ hole ∷ []) p
  from-rest p in_rest other = (let (in_bar, none) = h.free p (inr in_rest) in (in_bar, none-more p none other))

  from-done : (p : Pt) → Covers done p → Has bar p × ¬ Covers (holes ++ hole ∷ []) p
  from-done p covered = (let (in_bar, none) = h.free p (inl covered) in (in_bar, none-more p none (clear p covered)))

  free-more : (p : Pt) → Covers (done ++ before ∷ []) p ⊎ Has after p → Has bar p × ¬ Covers (holes ++ hole ∷ []) p
  free-more p (inl covered) = elim ((pushed done before p).0 covered) [
    | inl a ↦ from-done p a
    | inr b ↦ from-rest p (c.from_before p b).0 (c.from_before p b).1
  ]
  free-more p (inr b) = from-rest p (c.from_after p b).0 (c.from_after p b).1

  all-more : (p : Pt) → Has bar p → ¬ Covers (holes ++ hole ∷ []) p → Covers (done ++ before ∷ []) p ⊎ Has after p
  all-more p in_bar none = elim (h.all p in_bar (λ a. none ((pushed holes hole p).1 (inl a)))) [
    | inl a ↦ inl ((pushed done before p).1 (inl a))
    | inr b ↦ elim (c.parted p b (λ k. none ((pushed holes hole p).1 (inr k)))) [
      | inl l ↦ inl ((pushed done before p).1 (inr l))
      | inr r ↦ inr r
    ]
  ]

  pub bars-more : AreBarsBelow bar (holes ++ hole ∷ []) (done ++ before ∷ []) after
  bars-more = record {
    solid = All-push IsSolid done before h.solid c.before_solid;
    within = All-push (IsRectWithin farthest) done before h.within c.before_within;
    apart = all_pairs_push Precede done before h.apart (λ k d k_in. (c.earlier (get_or done k d) (h.after k d k_in)).0);
    rest_solid = c.after_solid;
    rest_within = c.after_within;
    after = All-push (λ d. Precede d after) done before (λ k d k_in. (c.earlier (get_or done k d) (h.after k d k_in)).1) c.apart;
    all = all-more;
    free = free-more;
  }

pub bars-next : (bar : Rect) (holes done : List Rect) (rest hole before after : Rect) → IsRectWithin farthest hole → AreHalves rest hole before after
    → AreBarsBelow bar holes done rest → AreBarsBelow bar (holes ++ hole ∷ []) (done ++ before ∷ []) after
bars-next bar holes done rest hole before after hole_in halves h =
    bars-more bar holes done rest hole before after h (are-cut rest hole before after h.rest_solid h.rest_within hole_in halves)

pub bars-step : (bar : Rect) (holes : List Rect) (i : ℕ) (done : List Rect) (rest before after d : Rect) → i < length holes → AreRectsWithin farthest holes
    → AreHalves rest (get_or holes i d) before after → AreBarsBelow bar (take i holes) done rest → AreBarsBelow bar (take (i + 1) holes) (done ++ before ∷ []) after
bars-step bar holes i done rest before after d i_in within halves h =
    let one : i + 1 ≡ suc i = omega arith in
    let same : take (i + 1) holes ≡ take i holes ++ get_or holes i d ∷ [] = ap (λ n. take n holes) one ∙ take-suc holes i d i_in in
    rw same (bars-next bar (take i holes) done rest (get_or holes i d) before after (within (get_or holes i d) (Contains-get_or holes i d i_in)) halves h)

alone-only : (r : Rect) (p : Pt) → Covers (alone r) p → Has r p
alone-only r p (zero, s, l, is, has) = subst (λ t. Has t p) (sym is) has
alone-only r p (suc k, s, l, is, has) = absurd (omega (arith, l))

only-alone : (r : Rect) (p : Pt) → Has r p → Covers (alone r) p
only-alone r p has = (0, r, omega arith, refl, has)

alone-within : (r : Rect) → IsRectWithin farthest r → AreRectsWithin farthest (alone r)
alone-within r w s (zero, l, is) = subst (IsRectWithin farthest) is w
alone-within r w s (suc k, l, is) = absurd (omega (arith, l))

nothing : Rect
nothing = record { x0 = pos 0; y0 = pos 0; x1 = pos 0; y1 = pos 0 }

comes-first : (a b : Rect) → IsSolid a → IsSolid b → Precede a b → ComesFirst (alone a) (alone b)
comes-first a b solid_a solid_b before = record {
  first = at a.x0 a.y0;
  second = at b.x0 b.y0;
  first_is = IsLeast-first a [] (canonical-one a solid_a);
  second_is = IsLeast-first b [] (canonical-one b solid_b);
  precedes = elim before [
    | inl (l, low) ↦ by_lt_z a.y0 b.y0 (λ m. inl m) (λ m. inr (omega (arith, ints, low, m), omega (arith, ints, l, solid_a.wide)))
    | inr l ↦ inl (omega (arith, ints, l, solid_a.tall))
  ];
}

-- rectangles between which columns or rows lie are the components of their squares
module _ (a : Region) (bars : List Rect) (solid : All IsSolid bars) (within : All (IsRectWithin farthest) bars) (apart : AllPairs Precede bars)
    (same : SameSquares (Covers bars) a) where
  bar-in : (k : ℕ) → k < length (map alone bars) → k < length bars
  bar-in k k_in = subst (λ m. k < m) (length-map bars alone) k_in

  part-is : (k : ℕ) (d : List Rect) (e : Rect) → k < length (map alone bars) → get_or (map alone bars) k d ≡ alone (get_or bars k e)
  part-is k d e k_in = get_or-map alone bars k e d (bar-in k k_in)

  together : SameSquares (union_of (map alone bars)) a
  together p = (
    λ (k, part, k_in, is, has). (
        let r : Rect = get_or bars k nothing in
        let covers : Covers (alone r) p = subst (λ s. Covers s p) (sym is ∙ part-is k part nothing k_in) has in
        (same p).0 (k, r, bar-in k k_in, get_or_default bars k r nothing (bar-in k k_in), alone-only r p covers)),
    λ in_a. (
        let (k, r, k_in, is, has) = (same p).1 in_a in
        let part_in : k < length (map alone bars) = subst (λ m. k < m) (sym (length-map bars alone)) k_in in
        (k, alone r, part_in, part-is k (alone r) r part_in ∙ ap alone is, only-alone r p has)),
  )

  module _ (k : ℕ) (k_in : k < length bars) where
    abbrev one : Rect
    one = get_or bars k nothing

    into : (p : Pt) → Has one p → a p
    into p has = (same p).0 (k, one, k_in, get_or_default bars k one nothing k_in, has)

    near : (p s : Pt) → Touch p s → a s → Has one p → Has one s
    near p s touch in_a has =
        let (j, t, j_in, is, has_t) = (same s).1 in_a in
        let has_u : Has (get_or bars j nothing) s = subst (λ x. Has x s) (sym is ∙ get_or_default bars j t nothing j_in) has_t in
        elim (cases_eq j k) [
          | inl e ↦ subst (λ i. Has (get_or bars i nothing) s) e has_u
          | inr ne ↦ elim (cases_lt j k) [
            | inl l ↦ absurd (precede-untouched (get_or bars j nothing) one s p (apart j k nothing l k_in) has_u has (Touch-sym p s touch))
            | inr m ↦ absurd (precede-untouched one (get_or bars j nothing) p s (apart k j nothing (omega (arith, ne, m)) j_in) has has_u touch)
          ]
        ]

    stay : {p q : Pt} → Linked a p q → Has one p → Has one q
    stay (here h) has = has
    stay {p = p} (on {q = s} h touch l) has = stay l (near p s touch (Linked-start a l) has)

    whole-is : (p : Pt) × a p × SameSquares (Covers (alone one)) (component a p)
    whole-is =
        let s : IsSolid one = solid k nothing k_in in
        let corner : Pt = at one.x0 one.y0 in
        let has : Has one corner = record { left = omega (arith, ints); right = s.wide; low = omega (arith, ints); high = s.tall } in
        (corner, into corner has, λ q. (λ h. linked-within a one into corner q has (alone-only one q h), λ l. only-alone one q (stay l has)))

  canonicals : All IsCanonical (map alone bars)
  canonicals k d k_in = rw (part-is k d nothing k_in) (canonical-one (get_or bars k nothing) (solid k nothing (bar-in k k_in)))

  components : AreComponents a (map alone bars)
  components = record {
    canonical = canonicals;
    together = together;
    whole = λ k d k_in. rw (part-is k d nothing k_in) (whole-is k (bar-in k k_in));
    ordered = λ i j d l j_in. (
        let i_in : i < length (map alone bars) = omega (arith, l, j_in) in
        rw (part-is i d nothing i_in, part-is j d nothing j_in)
        (comes-first (get_or bars i nothing) (get_or bars j nothing) (solid i nothing (bar-in i i_in)) (solid j nothing (bar-in j j_in)) (apart i j nothing l (bar-in j j_in))));
  }

  parts : AreParts (map alone bars)
  parts = record {
    apart = λ i j d l j_in. (
        let i_in : i < length (map alone bars) = omega (arith, l, j_in) in
        rw (part-is i d nothing i_in, part-is j d nothing j_in)
        (λ p in_i in_j. precede-apart (get_or bars i nothing) (get_or bars j nothing) p (apart i j nothing l (bar-in j j_in)) (alone-only _ p in_i) (alone-only _ p in_j)));
    canonical = canonicals;
    within = λ k d k_in. rw (part-is k d nothing k_in) (alone-within (get_or bars k nothing) (within k nothing (bar-in k k_in)));
  }

  pub alone-broken : AreComponents a (map alone bars) × AreParts (map alone bars)
  alone-broken = (components, parts)

-- the rectangles between the holes, and the one behind them
pub bars-broken : (bar : Rect) (holes done : List Rect) (rest : Rect) → AreBarsBelow bar holes done rest → AreBroken (bar ∷ []) holes (map alone (done ++ rest ∷ []))
bars-broken bar holes done rest h =
    let same : SameSquares (Covers (done ++ rest ∷ [])) (left_of (bar ∷ []) holes) = λ p. (
      λ c. (let (in_bar, none) = h.free p ((pushed done rest p).0 c) in (only-alone bar p in_bar, none)),
      λ (covered, none). (pushed done rest p).1 (h.all p (alone-only bar p covered) none),
    ) in
    let both = alone-broken (left_of (bar ∷ []) holes) (done ++ rest ∷ []) (All-push IsSolid done rest h.solid h.rest_solid)
    (All-push (IsRectWithin farthest) done rest h.within h.rest_within)
    (all_pairs_push Precede done rest h.apart (λ k d k_in. h.after k d k_in)) same in
    record { components = both.0; apart = both.1 }
