-- What the walk over cells shows is what the placements of the layout draw.
use Rattle.std.proofs.Common.{◌≡◌, ℕ, ◌<◌, ◌≤◌, ◌^◌, ◌⊎◌, inl, inr, ⊎_elim, Bool, true, false, cond, ℤ, pos, ◌+ℤ◌, ◌*ℤ◌, List, [], ◌∷◌}
use Rattle.std.proofs.Common.{Option, Some, None, map, length, get_or, take, refl, sym, ap, ◌∙◌, arith}
use Rattle.std.specs.List.{Contains}
use Rattle.std.proofs.lemmas.Int.{ints}
use Rattle.std.proofs.lemmas.List.Elements.{Contains-get_or}
use Rattle.std.proofs.lemmas.List.{get_or-take, length-take}
use Rattle.std.proofs.lemmas.Option.{slice_get-get_or, slice_get_within}
use Rattle.dpl_spec_split.specs.declared.Pt.{Pt}
use Rattle.dpl_spec_split.proofs.Ordered.{Contains-nil, Contains-head}
use Rattle.dpl_spec_elements.specs.Reals.{Excess64, real_of, IsWhole, IsQuarterTurns}
use Rattle.dpl_spec_elements.specs.Motions.{Motion, image}
use Rattle.dpl_spec_format.specs.Tree.{Library, Element, Body, elements_at}
use Rattle.dpl_spec_layout.specs.declared.Layer.{Layer}
use Rattle.dpl_spec_layout.specs.Elements.{loops_of, AreTurns, IsCopyMotion}
use Rattle.dpl_spec_layout.specs.Placements.{Step, IsStep, Leads, IsPlacement, placed}
use Rattle.dpl_links.specs.Graph.{IsMarked, AreReached}
use Rattle.dpl_spec_layout.specs.Faults.{IsNowhere, IsRefused}
use Rattle.dpl_flatten.proofs.ReachLaws.{reaches_in_layout}
use Rattle.dpl_walk.specs.declared.cells.Outline.{Outline}
use Rattle.dpl_walk.specs.declared.cells.Copies.{Copies}
use Rattle.dpl_walk.specs.declared.cells.Cell.{Cell}
use Rattle.dpl_flatten.specs.Links.{IsLinked, IsOrdered}
use Rattle.dpl_walk.specs.Cells.{copy_motion}
use Rattle.dpl_flatten.specs.Cells.{AreCopies, AreCountedTargets, AreTaken, AreCells}
use Rattle.dpl_flatten.specs.Totals.{AreTotals}
use Rattle.dpl_flatten.specs.Drawing.{IsTrimmed, drawn}
use Rattle.dpl_spec_layout.specs.Structures.{target_of}
use Rattle.dpl_walk.specs.Ways.{AreBehind, IsOrderOf}
use Rattle.dpl_walk.specs.Walk.{Pass, Passes, through, IsShown, AreKnown, AreDeep, outlines_at, copies_at}
use Rattle.dpl_flatten.proofs.LinkLaws.{target_known}
use Rattle.dpl_walk.proofs.StackLaws.{shown_by, shown_below}

-- A loop of an element, where steps lead to it from structure k, which is placed by f.
abbrev pub IsOfPlacement : Library → Layer → ℕ → (Pt → Pt) → List Pt → ℕ → Type 0
IsOfPlacement lib layer k f ps at =
    (steps : List Step) × (l : ℕ) × (e : Element) × (qs : List Pt) × IsPlacement lib k steps l e × Contains (loops_of layer e.body) qs
    × (ps ≡ map (λ p. f (placed steps p)) qs) × (at ≡ e.at)

one_number : (r : Excess64) (p q : ℤ) → IsWhole r p → IsWhole r q → p ≡ q
one_number r p q a b = omega (arith, ints, a, b)

one_turn : (r : Excess64) (m n : ℕ) → IsQuarterTurns r m → IsQuarterTurns r n → m ≡ n
one_turn r m n a b = let e = one_number r (pos 90 *ℤ (pos 4 *ℤ a.1.0 +ℤ pos m)) (pos 90 *ℤ (pos 4 *ℤ b.1.0 +ℤ pos n)) a.1.1 b.1.1 in omega (arith, ints, e, a.0, b.0)

turns_same : (angle : Option (List ℕ)) (m n : ℕ) → AreTurns angle m → AreTurns angle n → m ≡ n
turns_same None m n a b = a ∙ sym b
turns_same (Some bytes) m n a b = one_turn (real_of bytes) m n a b

same_motion : (m n : Motion) → m.reflect ≡ n.reflect → m.turns ≡ n.turns → m.dx ≡ n.dx → m.dy ≡ n.dy → m ≡ n
same_motion m n a b c d = λ i. record { reflect = a i; turns = b i; dx = c i; dy = d i }

one_copy : (b : Body) (i j : ℕ) (m n : Motion) → IsCopyMotion b i j m → IsCopyMotion b i j n → m ≡ n
one_copy b i j m n x y = same_motion m n (x.reflect ∙ sym y.reflect) (turns_same _ m.turns n.turns x.turns y.turns) (x.x ∙ sym y.x) (x.y ∙ sym y.y)

some_is : {a b : ℕ} → Some a ≡ Some b → a ≡ b
some_is e = cc

low : (b : Bool) (n m : ℕ) → (b ≡ true → n ≤ m) → cond b n 0 ≤ m
low true n m h = h refl
low false n m h = omega arith

marked_or : (b : Bool) → (b ≡ true) ⊎ (b ≡ true → ⊥)
marked_or true = inl refl
marked_or false = inr (λ e. let f : false ≡ true = e in cc)

module _ (lib : Library) (layer : Layer) (graph : List (List ℕ)) (marks : List Bool) (cells : List Cell) (links : IsLinked lib graph marks)
    (are : AreCells lib layer marks cells) where
  pub to_layout : (ss : List Pass) (k l : ℕ) (f : Pt → Pt) (o : Outline) → IsMarked marks k → Passes cells k ss l
      → Contains (outlines_at cells l) o → IsOfPlacement lib layer k f (map (λ p. f (through ss p)) o.points) o.at
  to_layout [] k l f o m e c =
      let d = (are.marked k m).drawn o (rw e c) in
      ([], k, d.0, o.points, record { leads = refl; inside = d.1 }, d.3, refl, d.2)
  to_layout (s ∷ ss) k l f o m e c =
      let motion = copy_motion s.copies s.column s.row in
      let p = (are.marked k m).placed s.copies e.0 in
      let edge = links.graph_of.refers k s.copies.target (p.0, p.1, p.2) in
      let r = to_layout ss s.copies.target l (λ q. f (image (copy_motion s.copies s.column s.row) q)) o (links.closed k s.copies.target m edge) e.3 c in
      let first : Step = record { element = p.0; column = s.column; row = s.row; motion = motion } in
      let step : IsStep lib k first s.copies.target = record {
        inside = p.1;
        target = p.2;
        column = rw (← p.3.columns) e.1;
        row = rw
            (← p.3.rows) e.2;
        motion = p.3.motions s.column s.row e.1 e.2;
      } in
      (first ∷ r.0, r.1, r.2, r.3, record { leads = (s.copies.target, step, r.4.leads); inside = r.4.inside }, r.5, r.6, r.7)

  pub from_layout : (steps : List Step) (k l : ℕ) (f : Pt → Pt) (e : Element) (qs : List Pt) → IsMarked marks k → Leads lib k steps l
      → Contains (elements_at lib l) e → Contains (loops_of layer e.body) qs → IsShown cells k f (map (λ p. f (placed steps p)) qs) e.at
  from_layout [] k l f e qs m d c q =
      ([], k, record { at = e.at; points = qs }, refl, (are.marked k m).outlined e qs (rw d c) q, refl, refl)
  from_layout (s ∷ ss) k l f e qs m d c q =
      let edge = links.graph_of.refers k d.0 (s.element, d.1.inside, d.1.target) in
      let r = from_layout ss d.0 l (λ p. f (image s.motion p)) e qs (links.closed k d.0 m edge) d.2 c q in
      ⊎_elim (λ bare. absurd (bare ss l e qs (record { leads = d.2; inside = c }) q))
      (λ (x : (a : Copies) × Contains (copies_at cells k) a × (a.target ≡ d.0) × AreCopies s.element.body a).
      let i : s.column < x.0.columns = rw x.3.columns d.1.column in
      let j : s.row < x.0.rows = rw x.3.rows d.1.row in
      let same : s.motion ≡ copy_motion x.0 s.column s.row = one_copy s.element.body s.column s.row s.motion
      (copy_motion x.0 s.column s.row) d.1.motion (x.3.motions s.column s.row i j) in
      shown_below cells k f (map (λ p. f (placed (s ∷ ss) p)) qs) e.at x.0 s.column s.row (x.1, i, j)
      (shown_by cells d.0 x.0.target (λ p. f (image s.motion p)) (λ p. f (image (copy_motion x.0 s.column s.row) p))
      (map (λ p. f (placed (s ∷ ss) p)) qs) e.at (sym x.2) (λ p. ap (λ (n : Motion). f (image n p)) same) r))
      ((are.marked k m).copied s.element d.0 d.1.inside d.1.target)

  pub cells_known : AreKnown (2 ^ 31) cells
  cells_known = record {
    targets = λ k c h. ⊎_elim (λ m. let p = (are.marked k m).placed c h in let t = target_known lib p.0 c.target p.2 in
        omega (arith, t, are.each)) (λ n. absurd (Contains-nil c (rw ((are.unmarked k n).0) at h))) (marked_or (get_or marks k false));
    ready = λ k c h. ⊎_elim (λ m. (are.marked k m).ready c h) (λ n. absurd (Contains-nil c (rw ((are.unmarked k n).0) at h))) (marked_or (get_or marks k false));
    within = λ k i d h. ⊎_elim (λ m. (are.marked k m).within (get_or (outlines_at cells k) i d) (Contains-get_or (outlines_at cells k) i d h))
        (λ n. absurd (omega (arith, h, ap length ((are.unmarked k n).1)))) (marked_or (get_or marks k false));
  }

  -- copies lead to lower levels
  pub cells_deep : (levels vertices : List ℕ) → IsOrdered lib graph marks levels vertices → AreDeep cells
  cells_deep levels vertices o = record {
    level = λ k. cond (get_or marks k false) (get_or levels k 0) 0;
    falls = λ k c h. ⊎_elim (λ m. below k c h m) (λ n. absurd (Contains-nil c (rw ((are.unmarked k n).0) at h))) (marked_or (get_or marks k false));
    few = λ k. low (get_or marks k false) (get_or levels k 0) (length cells) (λ m. let l = (o.placed k m).inside in omega (arith, l, o.few, are.each));
  }
    where
      below : (k : ℕ) (c : Copies) → Contains (copies_at cells k) c → IsMarked marks k
          → cond (get_or marks c.target false) (get_or levels c.target 0) 0 < cond (get_or marks k false) (get_or levels k 0) 0
      below k c h m =
          let p = (are.marked k m).placed c h in
          let edge = links.graph_of.refers k c.target (p.0, p.1, p.2) in
          let there : get_or marks c.target false ≡ true = links.closed k c.target m edge in
          let here : get_or marks k false ≡ true = m in
          rw (here, there) (o.falls k c.target m edge)

module _ (lib : Library) (layer : Layer) (graph : List (List ℕ)) (marks : List Bool) (cells : List Cell) (links : IsLinked lib graph marks)
    (are : AreCells lib layer marks cells) (levels vertices : List ℕ) (o : IsOrdered lib graph marks levels vertices) where
  -- what places copies is marked
  placing : (k : ℕ) (c : Copies) → Contains (copies_at cells k) c → IsMarked marks k
  placing k c h = ⊎_elim (λ m. m) (λ n. absurd (Contains-nil c (rw ((are.unmarked k n).0) at h))) (marked_or (get_or marks k false))

  standing : (n k : ℕ) → IsMarked marks k → get_or levels k 0 < n → n ≤ length vertices → Contains (take n vertices) k
  standing n k m h l =
      let p = o.placed k m in
      let there : get_or (take n vertices) (get_or levels k 0) 0 ≡ k = get_or-take n vertices (get_or levels k 0) 0 h ∙ p.stands in
      rw there at (Contains-get_or (take n vertices) (get_or levels k 0) 0 (omega (arith, length-take n vertices, h, l)))

  behind : AreBehind cells vertices
  behind i k c s h =
      let m = placing k c h in
      let p = (are.marked k m).placed c h in
      let edge = links.graph_of.refers k c.target (p.0, p.1, p.2) in
      let falls = o.falls k c.target m edge in
      let low = slice_get_within vertices i k s in
      let here : get_or vertices i 0 ≡ k = some_is (sym (slice_get-get_or vertices i 0 low) ∙ s) in
      let level : get_or levels k 0 ≡ i = rw here at (o.own i low).1 in
      standing i c.target (links.closed k c.target m edge) (omega (arith, falls, level)) (omega (arith, low))

  pub order_of : IsOrderOf cells vertices
  order_of = record {
    known = λ i d h. let q = o.known (get_or vertices i d) (Contains-get_or vertices i d h) in omega (arith, q, are.each);
    behind = behind;
    whole = λ k p.
        let m = placing k p.0 (rw p.1.alone (Contains-head p.0 [])) in
        let x = o.placed k m in
        rw x.stands at (Contains-get_or vertices (get_or levels k 0) 0 x.inside);
  }

-- structures that place no point are copied nowhere
pub trimmed : (lib : Library) (layer : Layer) (marks : List Bool) (cells : List Cell) (top : ℕ) (order : List ℕ)
    → AreCells lib layer marks cells → IsTrimmed lib layer (drawn cells order top)
trimmed lib layer marks cells top order are k c h = ⊎_elim (λ m. (are.marked k m).full c h)
    (λ n. absurd (Contains-nil c (rw ((are.unmarked k n).0) at h))) (marked_or (get_or marks k false))

pub bare_targets : (lib : Library) (layer : Layer) (graph : List (List ℕ)) (marks : List Bool) (totals : List ℕ) → IsLinked lib graph marks
    → AreTotals lib layer marks totals → (k : ℕ) → IsMarked marks k → AreCountedTargets lib layer totals (elements_at lib k)
bare_targets lib layer graph marks totals links t k m = record {
  bare = λ e j c target none. t.bare j (below e j c target) none;
  full = λ e j c target some. let right = t.right j (below e j c target) in omega (arith, right, some);
}
  where
    below : (e : Element) (j : ℕ) → Contains (elements_at lib k) e → target_of lib e ≡ Some j → IsMarked marks j
    below e j c target = links.closed k j m (links.graph_of.refers k j (e, c, target))

pub all_taken : (lib : Library) (layer : Layer) (graph : List (List ℕ)) (top : ℕ) (marks : List Bool) → IsLinked lib graph marks
    → AreReached graph top marks → IsNowhere lib top (IsRefused layer) → (k : ℕ) → IsMarked marks k → AreTaken layer (elements_at lib k)
all_taken lib layer graph top marks links reached none k m e f c r = none k e
    (record { reached = reaches_in_layout links.graph_of (reached.sound k m); inside = c; holds = (f, r) })
