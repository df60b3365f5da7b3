-- The gains that are left of masks with fewer stitches are good lines of their certificate.
use Rattle.std.proofs.Common.{◌≡◌, ◌≢◌, ℕ, suc, ◌+◌, ◌<◌, ◌⊎◌, inl, inr, Bool, true, false, not, ◌&&◌, eqb, eq-eqb, ne_eqb, cond, List, [], ◌∷◌, length, map, get_or, refl, sym, ap, ◌∙◌, subst, arith}
use Rattle.std.specs.Prelude.{Option, Some, None, count_by, slice_get, unwrap_or}
use Rattle.std.specs.List.{All, Contains, zip}
use Rattle.std.proofs.lemmas.Bool.{cases_eq}
use Rattle.std.proofs.lemmas.List.{get_or_default, same_lists}
use Rattle.std.proofs.lemmas.List.Elements.{All-map}
use Rattle.std.proofs.lemmas.List.Sums.{sum_by-cons}
use Rattle.std.proofs.lemmas.Option.{slice_get-get_or, slice_get_cases}
use Rattle.std.proofs.lemmas.Slice.Zip.{AllZip-long}
use Rattle.dpl_spec_split.specs.declared.Spacing.{Spacing}
use Rattle.dpl_spec_split.specs.declared.Pt.{Pt}
use Rattle.dpl_spec_split.specs.declared.Rect.{Rect}
use Rattle.dpl_spec_split.specs.Squares.{Region, Covers, IsLeast}
use Rattle.dpl_spec_split.specs.Zones.{part_at}
use Rattle.dpl_spec_split.specs.Graphs.{Graph, Walk, IsRoot, Reaches, stay, step}
use Rattle.dpl_spec_split.specs.Pieces.{Conflict}
use Rattle.dpl_spec_split.specs.Colours.{differ, colour_at}
use Rattle.dpl_spec_split.specs.Decomposition.{Cut, IsCut, Masks, cut_graph}
use Rattle.dpl_spec_split.specs.Marks.{Marks, HasSome, anchors, conflict, down, fixed_to_a, fixed_to_b, letters_by, sides_by, up}
use Rattle.dpl_spec_split.proofs.GraphLaws.{root-unique}
use Rattle.dpl_spec_fewer.specs.Fewer.{Gains, leaves, zones_out}
use Rattle.dpl_spec_fewer.specs.Masks.{AreMasksBy}
use Rattle.dpl_spec_fewer.proofs.Flips.{all-sides}
use Rattle.dpl_spec_fewer.proofs.Ends.{none-gains}
use Rattle.dpl_stars.proofs.Walks.{Reaches-sym, Reaches-trans, root-along}
use Rattle.dpl_law_split.proofs.Apart.{graph-undirected, letter-at}
use Rattle.dpl_law_split.proofs.Lettering.{first-root, lettered}
use Rattle.dpl_cert.specs.declared.cert.Gain.{Gain}
use Rattle.dpl_spec_verdict.specs.declared.Verdict.TheVariants.{Valid}
use Rattle.dpl_spec_verdict.specs.Gains.{letters, AreRootsOf, HasBadGain, IsGainOf, IsUnmarked, VerdictOfGains}
use Rattle.dpl_law_verdict.specs.Own.{AreGainsBy, head_of, piece_line}
use Rattle.dpl_law_verdict.proofs.Flips.{sides-within}
use Rattle.dpl_law_verdict.proofs.Painted.{many-letters}

-- ---- components with anchors and without

module _ (m : Marks) (spacing : Spacing) (c : Cut) (roots : List ℕ) (are : AreRootsOf spacing c.pieces c.owners roots) (root : ℕ)
    (free : IsUnmarked (Some m) c.pieces roots root) where
  abbrev Plain : Graph
  Plain = Conflict spacing c.pieces c.owners

  abbrev Whole : Graph
  Whole = cut_graph (Some m) spacing c

  -- a piece of the component
  abbrev IsOf : ℕ → Type 0
  IsOf k = (k < length c.pieces) × (get_or roots k 0 ≡ root)

  -- a conflict stays in the component
  before : (j k : ℕ) → Plain j k → IsOf k → IsOf j
  before j k e (k_in, is) =
      let un = graph-undirected None spacing c in
      let of : IsRoot Plain k root = subst (λ (r : ℕ). IsRoot Plain k r) is (are.rooted k k_in) in
      let mine : IsRoot Plain j root = root-along Plain un k j root (1, step (un.both j k e) stay) of in
      (e.first, root-unique Plain j (get_or roots j 0) root (are.rooted j e.first) mine)

  unmarked : (j k : ℕ) → IsOf j → k ≡ j → HasSome (part_at c.pieces k) (λ p. Covers m.a p ⊎ Covers m.b p) → ⊥
  unmarked j k (j_in, is) same some = free j j_in is (subst (λ (n : ℕ). HasSome (part_at c.pieces n) (λ p. Covers m.a p ⊎ Covers m.b p)) same some)

  -- what joins a vertex to a piece of the component is a conflict
  joins : (u w j k : ℕ) → Whole u w → w ≡ j + 2 → IsOf j → Reaches Plain j k → (i : ℕ) × (u ≡ i + 2) × IsOf i × Reaches Plain i k
  joins u w j k (conflict a b e x y) is of reach =
      let same : b ≡ j = omega (arith, y, is) in
      let here : Plain a j = subst (λ (n : ℕ). Plain a n) same e in
      (a, x, before a j here of, Reaches-trans Plain (1, step here stay) reach)
  joins u w j k (up (anchors x y)) is of reach = absurd (omega (arith, y, is))
  joins u w j k (up (fixed_to_b n n_in (p, has, in_b) x y)) is of reach = absurd (unmarked j n of (omega (arith, y, is)) (p, has, inr in_b))
  joins u w j k (up (fixed_to_a n n_in (p, has, in_a) x y)) is of reach = absurd (unmarked j n of (omega (arith, y, is)) (p, has, inl in_a))
  joins u w j k (down (anchors x y)) is of reach = absurd (omega (arith, x, is))
  joins u w j k (down (fixed_to_b n n_in some x y)) is of reach = absurd (omega (arith, x, is))
  joins u w j k (down (fixed_to_a n n_in some x y)) is of reach = absurd (omega (arith, x, is))

  -- what leads to a piece of the component leads to it by conflicts
  led : {u v n : ℕ} → Walk Whole u v n → (k : ℕ) → v ≡ k + 2 → IsOf k → (j : ℕ) × (u ≡ j + 2) × IsOf j × Reaches Plain j k
  led stay k is of = (k, is, of, (0, stay))
  led (step {u = u} {v = w} e rest) k is of =
      let (j, w_is, j_of, reach) = led rest k is of in
      joins u w j k e w_is j_of reach

  lifted : {i j n : ℕ} → Walk Plain i j n → Walk Whole (i + 2) (j + 2) n
  lifted stay = stay
  lifted (step {u = i} {v = k} e rest) = step (conflict i k e refl refl) (lifted rest)

  -- the root of the component, by vertices
  vertex-root : (k : ℕ) → IsOf k → IsRoot Whole (k + 2) (root + 2)
  vertex-root k (k_in, is) =
      let of : IsRoot Plain k root = subst (λ (r : ℕ). IsRoot Plain k r) is (are.rooted k k_in) in
      record {
        reached = (of.reached.0, lifted of.reached.1);
        least = λ u reach. (let (j, u_is, j_of, back) = led reach.1 k refl (k_in, is) in
            let low = of.least j back in omega (arith, low, u_is));
      }

  piece-root : (k : ℕ) → IsOf root → IsRoot Whole (k + 2) (root + 2) → get_or roots k 0 ≡ root
  piece-root k own is =
      let back = Reaches-sym Whole (graph-undirected (Some m) spacing c) is.reached in
      let (j, k_is, j_of, reach) = led back.1 root refl own in
      let same : j ≡ k = omega (arith, k_is) in
      subst (λ (n : ℕ). get_or roots n 0 ≡ root) same j_of.1

-- ---- what is counted

abbrev unit : Bool → ℕ
unit b = cond b 1 0

counted-same : {X Y : Type 0} (p : X → Bool) (q : Y → Bool) (f : X → Y) (xs : List X) → ((k : ℕ) (d : X) → k < length xs → q (f (get_or xs k d)) ≡ p (get_or xs k d))
    → count_by q (map f xs) ≡ count_by p xs
counted-same p q f [] same = refl
counted-same p q f (x ∷ xs) same =
    let here : unit (q (f x)) ≡ unit (p x) = ap unit (same 0 x (omega arith)) in
    let rest = counted-same p q f xs (λ k d l. same (suc k) d (omega (arith, l))) in
    let a = sum_by-cons (λ y. unit (q y)) (f x) (map f xs) in
    let b = sum_by-cons (λ y. unit (p y)) x xs in
    omega (arith, a, b, rest, here)

same-test : (x y r s : ℕ) → (x ≡ r → y ≡ s) → (y ≡ s → x ≡ r) → eqb x r ≡ eqb y s
same-test x y r s there back = elim (cases_eq x r) [
  | inl e ↦ eq-eqb x r e ∙ sym (eq-eqb y s (there e))
  | inr ne ↦ ne_eqb x r ne ∙ sym (ne_eqb y s (λ e. ne (back e)))
]

-- a zone leaves the component, and its sides are wanted
abbrev test : Bool → Bool → Bool → Bool → Bool → Bool
test wanted a b x y = differ a b && not (differ wanted (differ x y))

same-tests : (wanted a b x y a2 b2 x2 y2 : Bool) → a ≡ a2 → b ≡ b2 → x ≡ x2 → y ≡ y2 → test wanted a b x y ≡ test wanted a2 b2 x2 y2
same-tests wanted a b x y a2 b2 x2 y2 e f g h =
    ap (λ z. test wanted z b x y) e ∙ (ap (λ z. test wanted a2 z x y) f ∙ (ap (λ z. test wanted a2 b2 z y) g ∙ ap (λ z. test wanted a2 b2 x2 z) h))

-- ---- with anchors

module _ (k : Marks) (spacing : Spacing) (overlap : ℕ) (layer : Region) (c : Cut) (m : Masks) (cut : IsCut (Some k) spacing overlap layer c)
    (masks : AreMasksBy true (Some k) spacing c m) (roots : List ℕ) (are : AreRootsOf spacing c.pieces c.owners roots) (root : ℕ)
    (free : IsUnmarked (Some k) c.pieces roots root) (root_in : root < length c.pieces) (own : get_or roots root 0 ≡ root) where
  abbrev all_sides : List (ℕ × ℕ)
  all_sides = sides_by (Some k) c.sides

  abbrev piece_letters : List Bool
  piece_letters = letters_by (Some k) masks.colours

  same-root : (n : ℕ) → n < length c.pieces → eqb (get_or masks.roots (n + 2) 0) (root + 2) ≡ eqb (get_or roots n 0) root
  same-root n n_in =
      let star = masks.rooted.stars (n + 2) (omega (arith, n_in)) in
      same-test (get_or masks.roots (n + 2) 0) (get_or roots n 0) (root + 2) root
      (λ e. piece-root k spacing c roots are root free n (root_in, own)
      (subst (λ (r : ℕ). IsRoot (cut_graph (Some k) spacing c) (n + 2) r) e star.0))
      (λ e. root-unique (cut_graph (Some k) spacing c) (n + 2) (get_or masks.roots (n + 2) 0) (root + 2) star.0
      (vertex-root k spacing c roots are root free n (n_in, e)))

  same-letter : (n : ℕ) → colour_at masks.colours (n + 2) ≡ colour_at piece_letters n
  same-letter n = sym (letter-at (Some k) masks.colours n)

  same-zones : (wanted : Bool) → zones_out masks.roots masks.colours (root + 2) wanted all_sides ≡ zones_out roots piece_letters root wanted c.sides
  same-zones wanted =
      counted-same
      (λ (s : ℕ × ℕ). leaves roots root s && not (differ wanted (differ (colour_at piece_letters s.0) (colour_at piece_letters s.1))))
      (λ (s : ℕ × ℕ). leaves masks.roots (root + 2) s && not (differ wanted (differ (colour_at masks.colours s.0) (colour_at masks.colours s.1))))
      (λ (s : ℕ × ℕ). (s.0 + 2, s.1 + 2)) c.sides
      (λ i d i_in. (let s = get_or c.sides i d in
      let (first, second) = sides-within (Some k) spacing overlap layer c roots cut are i d i_in in
      let each = are.each in
      same-tests wanted _ _ _ _ _ _ _ _ (same-root s.0 (omega (arith, first, each))) (same-root s.1 (omega (arith, second, each)))
      (same-letter s.0) (same-letter s.1)))

  sides-fit : All (λ (s : ℕ × ℕ). (s.0 < length masks.roots) × (s.1 < length masks.roots)) all_sides
  sides-fit =
      let each = are.each in
      let many = masks.rooted.lengths.0 in
      All-map (λ (s : ℕ × ℕ). (s.0 < length masks.roots) × (s.1 < length masks.roots)) (λ (s : ℕ × ℕ). (s.0 + 2, s.1 + 2)) c.sides
      (λ i d i_in. (let (first, second) = sides-within (Some k) spacing overlap layer c roots cut are i d i_in in
      (omega (arith, first, each, many), omega (arith, second, each, many))))

  not-held : slice_get masks.roots 0 ≢ Some (root + 2)
  not-held e =
      let many = masks.rooted.lengths.0 in
      let first = slice_get-get_or masks.roots 0 0 (omega (arith, many)) in
      let zero_is = first-root k spacing c masks.roots masks.odds masks.rooted in
      let same : get_or masks.roots 0 0 ≡ root + 2 = ap (λ (o : Option ℕ). unwrap_or o 0) (sym first ∙ e) in
      omega (arith, zero_is, same)

  anchored-less : zones_out roots piece_letters root false c.sides < zones_out roots piece_letters root true c.sides → ⊥
  anchored-less less =
      let each : length masks.colours ≡ length masks.roots = (lettered true (Some k) spacing c m masks).each ∙ sym masks.rooted.lengths.0 in
      let counts = all-sides masks.roots masks.colours (root + 2) each all_sides sides-fit in
      let d = same-zones true in
      let s = same-zones false in
      none-gains masks.roots (Some 0) all_sides masks.coloured.first masks.colours masks.coloured.led (root + 2)
      (record { free = not-held; fewer = omega (arith, counts, d, s, less) })

-- ---- without

module _ (spacing : Spacing) (overlap : ℕ) (layer : Region) (c : Cut) (m : Masks) (cut : IsCut None spacing overlap layer c)
    (masks : AreMasksBy true None spacing c m) (roots : List ℕ) (are : AreRootsOf spacing c.pieces c.owners roots) where
  roots-same : masks.roots ≡ roots
  roots-same =
      let many = masks.rooted.lengths.0 in
      let each = are.each in
      same_lists masks.roots roots (many ∙ sym each) (λ k d l.
      (let k_in : k < length c.pieces = omega (arith, l, many) in
      get_or_default masks.roots k d 0 l
      ∙ (root-unique (Conflict spacing c.pieces c.owners) k (get_or masks.roots k 0) (get_or roots k 0) (masks.rooted.stars k k_in).0 (are.rooted k k_in)
      ∙ get_or_default roots k 0 d (omega (arith, k_in, each)))))

  plain-less : (root : ℕ) → zones_out roots masks.colours root false c.sides < zones_out roots masks.colours root true c.sides → ⊥
  plain-less root less =
      let each : length masks.colours ≡ length roots = (lettered true None spacing c m masks).each ∙ sym are.each in
      let counts = all-sides roots masks.colours root each c.sides (sides-within None spacing overlap layer c roots cut are) in
      let none : Gains roots None c.sides masks.colours root → ⊥ = subst (λ (rs : List ℕ). Gains rs None c.sides masks.colours root → ⊥) roots-same
      (none-gains masks.roots None c.sides masks.coloured.first masks.colours masks.coloured.led root) in
      none (record { free = tt; fewer = omega (arith, counts, less) })

-- ---- both

no-less : (marks : Option Marks) (spacing : Spacing) (overlap : ℕ) (layer : Region) (c : Cut) (m : Masks) → IsCut marks spacing overlap layer c
    → (masks : AreMasksBy true marks spacing c m) → (roots : List ℕ) → AreRootsOf spacing c.pieces c.owners roots
    → (g : Gain) → IsGainOf marks c.pieces c.sides roots (letters_by marks masks.colours) g → g.s < g.d → ⊥
no-less None spacing overlap layer c m cut masks roots are g is less =
    let d = is.d in
    let s = is.s in
    plain-less spacing overlap layer c m cut masks roots are g.piece (omega (arith, d, s, less))
no-less (Some k) spacing overlap layer c m cut masks roots are g is less =
    let d = is.d in
    let s = is.s in
    anchored-less k spacing overlap layer c m cut masks roots are g.piece is.free is.within is.least (omega (arith, d, s, less))

-- the letters of piece lines
line-letters : (cs : List Bool) (ks : List Pt) → length cs ≡ length ks → letters (map piece_line (zip cs ks)) ≡ cs
line-letters [] [] same = refl
line-letters [] (k ∷ ks) same = absurd (omega (arith, same))
line-letters (c ∷ cs) [] same = absurd (omega (arith, same))
line-letters (c ∷ cs) (k ∷ ks) same = ap (λ (bs : List Bool). c ∷ bs) (line-letters cs ks (omega (arith, same)))

none-bad-gain : (gains : List Gain) → ((g : Gain) → Contains gains g → g.s < g.d → ⊥) → HasBadGain gains gains → ⊥
none-bad-gain gains none (k, inl ne) = ne refl
none-bad-gain gains none (k, inr (g, at, less)) = elim (slice_get_cases gains k).1 [
  | inl (h, k_in, found, is) ↦ (let same : h ≡ g = cc in none g (subst (λ (x : Gain). Contains gains x) same (k, k_in, is)) less)
  | inr past ↦ (let never : None ≡ Some g = sym past.1 ∙ at in absurd (cc))
]

pub gains-valid : (fewer : Bool) (marks : Option Marks) (spacing : Spacing) (overlap : ℕ) (layer : List Rect) (c : Cut) (m : Masks) (gains : Option (List Gain))
    → IsCut marks spacing overlap (Covers layer) c → (masks : AreMasksBy fewer marks spacing c m)
    → AreGainsBy fewer marks spacing c (letters_by marks masks.colours) gains
    → VerdictOfGains marks spacing overlap layer (head_of spacing overlap c) (letters (map piece_line (zip (letters_by marks masks.colours) c.keys))) gains Valid
gains-valid false marks spacing overlap layer c m None cut masks are = refl
gains-valid false marks spacing overlap layer c m (Some gains) cut masks are = absurd are
gains-valid true marks spacing overlap layer c m None cut masks are = absurd are
gains-valid true marks spacing overlap layer c m (Some gains) cut masks are =
    let keys : length c.keys ≡ length c.pieces = AllZip-long (λ piece key. IsLeast (Covers piece) key) c.pieces c.keys cut.pieces.keyed in
    let mine : List Bool = letters_by marks masks.colours in
    let many : length mine ≡ length c.pieces = many-letters marks (length c.pieces) masks.colours (lettered true marks spacing c m masks).each in
    subst (λ (cs : List Bool). VerdictOfGains marks spacing overlap layer (head_of spacing overlap c) cs (Some gains) Valid)
    (sym (line-letters mine c.keys (many ∙ sym keys))) (
      c,
      cut,
      inr (
        λ other. elim other [ inl ne ↦ ne refl | inr ne ↦ ne refl ],
        (gains, are, inr (none-bad-gain gains (λ g g_in. no-less marks spacing overlap (Covers layer) c m cut masks are.roots are.are_roots g ((are.exactly g).0 g_in)), refl)),
      ),
    )
