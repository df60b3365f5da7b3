-- Going on along a path.
use Rattle.std.proofs.Common.{◌≡◌, ℕ, ◌+◌, ◌<◌, ◌≤◌, length, get_or, take, Bool, true, false, List, [], ◌∷◌, ◌++◌, refl, sym, ap, ◌∙◌, subst, append_assoc}
use Rattle.std.specs.Prelude.{ℤ, map, if◌then◌else◌}
use Rattle.std.proofs.lemmas.List.{append-nil, take_more, take_all}
use Rattle.dpl_spec_split.specs.declared.Pt.{Pt}
use Rattle.dpl_spec_elements.specs.declared.Heading.{Heading}
use Rattle.dpl_spec_elements.specs.declared.Segment.{Segment}
use Rattle.dpl_spec_elements.specs.Paths.{heading, same_heading, segments_from, bar, bars, corners_of}
use Rattle.dpl_shapes.specs.declared.bars.Stroke.{Stroke}
use Rattle.dpl_shapes.specs.Strokes.{loops_left, DrawsTo}

-- there is a segment still to come
some_segment : (p q : Pt) (rest : List Pt) → (t : Segment) × (ts : List Segment) × (segments_from p q rest ≡ t ∷ ts)
some_segment p q [] = (record { from = p; to = q }, [], refl)
some_segment p q (r ∷ rs) =
    elim (same_heading (heading p q) (heading q r)) as (λ b. (t : Segment) × (ts : List Segment)
    × ((if b then segments_from p r rs else record { from = p; to = q } ∷ segments_from q r rs) ≡ t ∷ ts)) [
      | true ↦ some_segment p r rs
      | false ↦ (record { from = p; to = q }, segments_from q r rs, refl)
    ]

bars-corner : (half begin end : ℤ) (s : Segment) (p q : Pt) (rest : List Pt)
    → bars half begin end (s ∷ segments_from p q rest) ≡ bar half begin half s ∷ bars half half end (segments_from p q rest)
bars-corner half begin end s p q rest =
    let (t, ts, e) = some_segment p q rest in
    ap (λ l. bars half begin end (s ∷ l)) e ∙ ap (λ l. bar half begin half s ∷ bars half half end l) (sym e)

-- round a corner
pub draws-corner : (half : ℤ) (old new : List (List Pt)) (s next : Stroke) (point : Pt) (a b : Heading) (same : Bool)
    → a ≡ heading s.segment.from s.segment.to → b ≡ heading s.segment.to point → same ≡ same_heading a b → same ≡ false
    → new ≡ old ++ corners_of (bar half s.begin half s.segment) ∷ []
    → next ≡ record { segment = record { from = s.segment.to; to = point }; begin = half } → DrawsTo half old s point new next
draws-corner half old new s next point a b same a_is b_is same_is turned new_is next_is =
    record {
      goes = λ end rest.
          let from : Pt = s.segment.from in
          let to : Pt = s.segment.to in
          let fresh : same_heading (heading from to) (heading to point) ≡ false =
          sym (same_is ∙ (ap (λ h. same_heading h b) a_is ∙ ap (same_heading (heading from to)) b_is)) ∙ turned in
          let split : segments_from from to (point ∷ rest) ≡ s.segment ∷ segments_from to point rest =
          ap (λ c. if c then segments_from from point rest else s.segment ∷ segments_from to point rest) fresh in
          let whole : loops_left half end s (point ∷ rest) ≡ corners_of (bar half s.begin half s.segment) ∷ map corners_of (bars half half end (segments_from to point rest)) =
          ap (λ l. map corners_of (bars half s.begin end l)) split ∙ ap (map corners_of) (bars-corner half s.begin end s.segment to point rest) in
          ap (λ l. l ++ loops_left half end next rest) new_is
          ∙ (ap (λ n. (old ++ corners_of (bar half s.begin half s.segment) ∷ []) ++ loops_left half end n rest) next_is
          ∙ (append_assoc old (corners_of (bar half s.begin half s.segment) ∷ []) (map corners_of (bars half half end (segments_from to point rest)))
          ∙ ap (λ l. old ++ l) (sym whole)));
    }

-- the loops so far and those left are those of the whole path
abbrev pub AreDrawn : ℤ → List (List Pt) → Stroke → List Pt → List (List Pt) → Stroke → ℕ → Type 0
AreDrawn half begun first points loops s n = (end : ℤ) (rest : List Pt) → loops ++ loops_left half end s rest ≡ begun ++ loops_left half end first (take n points ++ rest)

pub drawn-next : (half other : ℤ) (begun old new : List (List Pt)) (first s next : Stroke) (points : List Pt) (n : ℕ) (d : Pt)
    → other ≡ half → n < length points → AreDrawn half begun first points old s n → DrawsTo other old s (get_or points n d) new next
    → AreDrawn half begun first points new next (n + 1)
drawn-next half other begun old new first s next points n d same within before draws end rest =
    let here : DrawsTo half old s (get_or points n d) new next = subst (λ h. DrawsTo h old s (get_or points n d) new next) same draws in
    let more : take (n + 1) points ++ rest ≡ take n points ++ get_or points n d ∷ rest =
    ap (λ l. l ++ rest) (take_more points n d within) ∙ append_assoc (take n points) (get_or points n d ∷ []) rest in
    here.goes end rest ∙ (before end (get_or points n d ∷ rest) ∙ ap (λ l. begun ++ loops_left half end first l) (sym more))

-- after the last point its segment's loop is all that is left
pub drawn-all : (half end : ℤ) (begun loops new : List (List Pt)) (first s : Stroke) (points : List Pt) (n : ℕ) → begun ≡ []
    → length points ≤ n → AreDrawn half begun first points loops s n → new ≡ loops ++ corners_of (bar half s.begin end s.segment) ∷ []
    → new ≡ map corners_of (bars half first.begin end (segments_from first.segment.from first.segment.to points))
drawn-all half end begun loops new first s points n begun_is all h new_is =
    let gone : take n points ++ [] ≡ points = append-nil (take n points) ∙ take_all n points all in
    new_is ∙ (h end [] ∙ (ap (λ l. l ++ loops_left half end first (take n points ++ [])) begun_is ∙ ap (loops_left half end first) gone))

-- a bar by equal numbers, as those that a call was passed
pub bar-as : (loops new : List (List Pt)) (h b e half begin end : ℤ) (s : Segment) → h ≡ half → b ≡ begin → e ≡ end
    → new ≡ loops ++ corners_of (bar h b e s) ∷ [] → new ≡ loops ++ corners_of (bar half begin end s) ∷ []
bar-as loops new h b e half begin end s h_is b_is e_is is = is ∙ (λ i. loops ++ corners_of (bar (h_is i) (b_is i) (e_is i) s) ∷ [])

pub begun-as : (half b begin end : ℤ) (loops : List (List Pt)) (ss : List Segment) → b ≡ begin
    → loops ≡ map corners_of (bars half b end ss) → loops ≡ map corners_of (bars half begin end ss)
begun-as half b begin end loops ss same is = is ∙ ap (λ n. map corners_of (bars half n end ss)) same
