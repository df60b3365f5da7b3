-- Reading the body of an element.
use Rattle.std.proofs.Common.{◌≡◌, ℕ, Bool, true, false, ◌||◌, ◌⊎◌, inl, inr, cond, eqb, List, [], ◌∷◌, ◌++◌}
use Rattle.std.proofs.Common.{None, Ok, Err, refl, sym, subst, ap, ◌∙◌}
use Rattle.std.proofs.lemmas.Bool.{eqb-true, eqb-false, eq-eqb}
use Rattle.std.proofs.lemmas.List.Sums.{fold_push}
use Rattle.dpl_spec_format.specs.Kinds as kinds
use Rattle.dpl_spec_format.specs.Faults.{Fault}
use Rattle.dpl_spec_format.specs.Records.{Record, record_at}
use Rattle.dpl_spec_format.specs.Grammar.{Grammar, one, both, either, many, maybe, Has, a}
use Rattle.dpl_spec_format.specs.Grammar as grammar
use Rattle.dpl_spec_format.specs.Stream.{owner, names, refusal_in}
use Rattle.dpl_spec_format.specs.Tree.{Body, body_of}
use Rattle.dpl_spec_format.specs.Layout.{IsFirstFault}
use Rattle.dpl_syntax.specs.Reading as reading
use Rattle.dpl_syntax.specs.Reading.{◌>>=◌, Slots, Item, must, may, transformed, named, points, items_of, pick, body_at}
use Rattle.dpl_syntax.specs.Reached.{Reached}
use Rattle.dpl_syntax.proofs.Languages.{Avoids, IsSolid, Exists, Moves, solid_one, solid_both}
use Rattle.dpl_syntax.proofs.Languages.{avoids_either, solid_either, moves_one, moves_agreed, agrees_both, takes_first, takes_second}
use Rattle.dpl_syntax.proofs.Languages.{regroups, regroups_back, agrees_regrouped, exists_rest, exists_both}
use Rattle.dpl_syntax.proofs.Steps.{moved}
use Rattle.dpl_syntax.proofs.Items.{Goes, bind_ok, bind_err, ok_is, not_ok}
use Rattle.dpl_syntax.proofs.Lists.{grammar_of, behind, AllFit, items_ok, items_err, avoids_items, avoids_a, or_first, or_second}

-- ---- the seven types

or_cases : (x y : Bool) → x || y ≡ true → (x ≡ true) ⊎ (y ≡ true)
or_cases true y e = inl refl
or_cases false y e = inr e

pub by_kind : (P : ℕ → Type 0) → P kinds.boundary → P kinds.path → P kinds.sref → P kinds.aref → P kinds.text → P kinds.node → P kinds.box
    → (k : ℕ) → kinds.begins_element k ≡ true → P k
by_kind P p1 p2 p3 p4 p5 p6 p7 k e =
    elim (or_cases ((((((eqb k kinds.boundary) || eqb k kinds.path) || eqb k kinds.sref) || eqb k kinds.aref) || eqb k kinds.text) || eqb k
    kinds.node) (eqb k kinds.box) e) [
      | inl e6 ↦ elim (or_cases (((((eqb k kinds.boundary) || eqb k kinds.path) || eqb k kinds.sref) || eqb k kinds.aref) || eqb k
          kinds.text) (eqb k kinds.node) e6) [
            | inl e5 ↦ elim (or_cases ((((eqb k kinds.boundary) || eqb k kinds.path) || eqb k kinds.sref) || eqb k kinds.aref)
                (eqb k kinds.text) e5) [
                  | inl e4 ↦ elim (or_cases (((eqb k kinds.boundary) || eqb k kinds.path) || eqb k kinds.sref)
                      (eqb k kinds.aref) e4) [
                        | inl e3 ↦ elim (or_cases ((eqb k kinds.boundary) || eqb k kinds.path) (eqb k kinds.sref) e3) [
                          | inl e2 ↦ elim (or_cases (eqb k kinds.boundary) (eqb k kinds.path) e2) [
                            | inl e1 ↦ subst P (sym (eqb-true k kinds.boundary e1)) p1
                            | inr t ↦ subst P (sym (eqb-true k kinds.path t)) p2
                          ]
                          | inr t ↦ subst P (sym (eqb-true k kinds.sref t)) p3
                        ]
                        | inr t ↦ subst P (sym (eqb-true k kinds.aref t)) p4
                      ]
                  | inr t ↦ subst P (sym (eqb-true k kinds.text t)) p5
                ]
            | inr t ↦ subst P (sym (eqb-true k kinds.node t)) p6
          ]
      | inr t ↦ subst P (sym (eqb-true k kinds.box t)) p7
    ]

-- ---- what each has

fits_boundary : (rest : Grammar) → AllFit kinds.boundary rest (items_of kinds.boundary)
unfolding refusal_in
fits_boundary rest = (
  (record { plain = λ known at body. refl; inner = refl }, avoids_items (may kinds.plex ∷ must kinds.layer ∷ must kinds.datatype ∷ must kinds.xy ∷ []) rest kinds.elflags refl),
  (
    (record { plain = λ known at body. refl; inner = refl }, avoids_items (must kinds.layer ∷ must kinds.datatype ∷ must kinds.xy ∷ []) rest kinds.plex refl),
    (
      record { plain = λ known at body. refl; inner = refl },
      (
        record { plain = λ known at body. refl; inner = refl },
        (
          record { plain = λ known at body. refl; inner = refl },
          tt,
        ),
      ),
    ),
  ),
)

fits_path : (rest : Grammar) → AllFit kinds.path rest (items_of kinds.path)
unfolding refusal_in
fits_path rest = (
  (
    record { plain = λ known at body. refl; inner = refl },
    avoids_items (may kinds.plex ∷ must kinds.layer ∷ must kinds.datatype ∷ may kinds.pathtype ∷ may kinds.width ∷ may kinds.bgnextn ∷ may
        kinds.endextn ∷ must kinds.xy ∷ []) rest kinds.elflags refl,
  ),
  (
    (
      record { plain = λ known at body. refl; inner = refl },
      avoids_items (must kinds.layer ∷ must kinds.datatype ∷ may kinds.pathtype ∷ may kinds.width ∷ may kinds.bgnextn ∷ may kinds.endextn
          ∷ must kinds.xy ∷ []) rest kinds.plex refl,
    ),
    (
      record { plain = λ known at body. refl; inner = refl },
      (
        record { plain = λ known at body. refl; inner = refl },
        (
          (
            record { plain = λ known at body. refl; inner = refl },
            avoids_items (may kinds.width ∷ may kinds.bgnextn ∷ may kinds.endextn ∷ must kinds.xy ∷ []) rest kinds.pathtype refl,
          ),
          (
            (record { plain = λ known at body. refl; inner = refl }, avoids_items (may kinds.bgnextn ∷ may kinds.endextn ∷ must kinds.xy ∷ []) rest kinds.width refl),
            (
              (record { plain = λ known at body. refl; inner = refl }, avoids_items (may kinds.endextn ∷ must kinds.xy ∷ []) rest kinds.bgnextn refl),
              (
                (record { plain = λ known at body. refl; inner = refl }, avoids_items (must kinds.xy ∷ []) rest kinds.endextn refl),
                (
                  record { plain = λ known at body. refl; inner = refl },
                  tt,
                ),
              ),
            ),
          ),
        ),
      ),
    ),
  ),
)

fits_sref : (rest : Grammar) → AllFit kinds.sref rest (items_of kinds.sref)
unfolding refusal_in
fits_sref rest = (
  (record { plain = λ known at body. refl; inner = refl }, avoids_items (may kinds.plex ∷ named ∷ transformed ∷ points 8 ∷ []) rest kinds.elflags refl),
  (
    (record { plain = λ known at body. refl; inner = refl }, avoids_items (named ∷ transformed ∷ points 8 ∷ []) rest kinds.plex refl),
    (
      tt,
      (
        record {
          strans = record { plain = λ known at body. refl; inner = refl };
          mag = record
              { plain = λ known at body. refl; inner = refl };
          angle = record { plain = λ known at body. refl; inner = refl };
          no_strans = avoids_items (points 8 ∷ []) rest kinds.strans refl;
          no_mag = avoids_items
              (points 8 ∷ []) rest kinds.mag refl;
          no_angle = avoids_items (points 8 ∷ []) rest kinds.angle refl;
        },
        (
          λ n. refl,
          tt,
        ),
      ),
    ),
  ),
)

fits_aref : (rest : Grammar) → AllFit kinds.aref rest (items_of kinds.aref)
unfolding refusal_in
fits_aref rest = (
  (record { plain = λ known at body. refl; inner = refl }, avoids_items (may kinds.plex ∷ named ∷ transformed ∷ must kinds.colrow ∷ points 24 ∷ []) rest kinds.elflags refl),
  (
    (record { plain = λ known at body. refl; inner = refl }, avoids_items (named ∷ transformed ∷ must kinds.colrow ∷ points 24 ∷ []) rest kinds.plex refl),
    (
      tt,
      (
        record {
          strans = record { plain = λ known at body. refl; inner = refl };
          mag = record
              { plain = λ known at body. refl; inner = refl };
          angle = record { plain = λ known at body. refl; inner = refl };
          no_strans = avoids_items (must kinds.colrow ∷ points 24 ∷ []) rest kinds.strans refl;
          no_mag = avoids_items
              (must kinds.colrow ∷ points 24 ∷ []) rest kinds.mag refl;
          no_angle = avoids_items
              (must kinds.colrow ∷ points 24 ∷ []) rest kinds.angle refl;
        },
        (
          record { plain = λ known at body. refl; inner = refl },
          (
            λ n. refl,
            tt,
          ),
        ),
      ),
    ),
  ),
)

fits_text : (rest : Grammar) → AllFit kinds.text rest (items_of kinds.text)
unfolding refusal_in
fits_text rest = (
  (
    record { plain = λ known at body. refl; inner = refl },
    avoids_items (may kinds.plex ∷ must kinds.layer ∷ must kinds.texttype ∷ may kinds.presentation ∷ may kinds.pathtype ∷ may kinds.width
        ∷ transformed ∷ points 8 ∷ must kinds.text_string ∷ []) rest kinds.elflags refl,
  ),
  (
    (
      record { plain = λ known at body. refl; inner = refl },
      avoids_items (must kinds.layer ∷ must kinds.texttype ∷ may kinds.presentation ∷ may kinds.pathtype ∷ may kinds.width ∷ transformed
          ∷ points 8 ∷ must kinds.text_string ∷ []) rest kinds.plex refl,
    ),
    (
      record { plain = λ known at body. refl; inner = refl },
      (
        record { plain = λ known at body. refl; inner = refl },
        (
          (
            record { plain = λ known at body. refl; inner = refl },
            avoids_items (may kinds.pathtype ∷ may kinds.width ∷ transformed ∷ points 8 ∷ must kinds.text_string ∷ []) rest kinds.presentation
                refl,
          ),
          (
            (
              record { plain = λ known at body. refl; inner = refl },
              avoids_items (may kinds.width ∷ transformed ∷ points 8 ∷ must kinds.text_string ∷ []) rest kinds.pathtype refl,
            ),
            (
              (record { plain = λ known at body. refl; inner = refl }, avoids_items (transformed ∷ points 8 ∷ must kinds.text_string ∷ []) rest kinds.width refl),
              (
                record {
                  strans = record { plain = λ known at body. refl; inner = refl };
                  mag = record
                      { plain = λ known at body. refl; inner = refl };
                  angle = record { plain = λ known at body. refl; inner = refl };
                  no_strans = avoids_items (points 8 ∷ must kinds.text_string ∷ []) rest kinds.strans refl;
                  no_mag = avoids_items
                      (points 8 ∷ must kinds.text_string ∷ []) rest kinds.mag refl;
                  no_angle = avoids_items
                      (points 8 ∷ must kinds.text_string ∷ []) rest kinds.angle refl;
                },
                (
                  λ n. refl,
                  (
                    record { plain = λ known at body. refl; inner = refl },
                    tt,
                  ),
                ),
              ),
            ),
          ),
        ),
      ),
    ),
  ),
)

fits_node : (rest : Grammar) → AllFit kinds.node rest (items_of kinds.node)
unfolding refusal_in
fits_node rest = (
  (record { plain = λ known at body. refl; inner = refl }, avoids_items (may kinds.plex ∷ must kinds.layer ∷ must kinds.nodetype ∷ must kinds.xy ∷ []) rest kinds.elflags refl),
  (
    (record { plain = λ known at body. refl; inner = refl }, avoids_items (must kinds.layer ∷ must kinds.nodetype ∷ must kinds.xy ∷ []) rest kinds.plex refl),
    (
      record { plain = λ known at body. refl; inner = refl },
      (
        record { plain = λ known at body. refl; inner = refl },
        (
          record { plain = λ known at body. refl; inner = refl },
          tt,
        ),
      ),
    ),
  ),
)

fits_box : (rest : Grammar) → AllFit kinds.box rest (items_of kinds.box)
unfolding refusal_in
fits_box rest = (
  (record { plain = λ known at body. refl; inner = refl }, avoids_items (may kinds.plex ∷ must kinds.layer ∷ must kinds.boxtype ∷ must kinds.xy ∷ []) rest kinds.elflags refl),
  (
    (record { plain = λ known at body. refl; inner = refl }, avoids_items (must kinds.layer ∷ must kinds.boxtype ∷ must kinds.xy ∷ []) rest kinds.plex refl),
    (
      record { plain = λ known at body. refl; inner = refl },
      (
        record { plain = λ known at body. refl; inner = refl },
        (
          record { plain = λ known at body. refl; inner = refl },
          tt,
        ),
      ),
    ),
  ),
)

fits : (rest : Grammar) (k : ℕ) → kinds.begins_element k ≡ true → AllFit k rest (items_of k)
fits rest = by_kind (λ k. AllFit k rest (items_of k)) (fits_boundary rest) (fits_path rest) (fits_sref rest) (fits_aref rest) (fits_text rest) (fits_node rest) (fits_box rest)

-- ---- the grammar of each

-- the items as one grammar
abbrev whole : Item → List Item → Grammar
whole i [] = grammar_of i
whole i (j ∷ is) = both (grammar_of i) (whole j is)

unrolls : (i : Item) (is : List Item) (rest : Grammar) (ks : List ℕ) → Has (both (whole i is) rest) ks → Has (behind (i ∷ is) rest) ks
unrolls i [] rest ks h = h
unrolls i (j ∷ is) rest ks h =
    let p = regroups (grammar_of i) (whole j is) rest ks h in
    (p.0, p.1, p.2, p.3, unrolls j is rest p.1 p.4)

rolls : (i : Item) (is : List Item) (rest : Grammar) (ks : List ℕ) → Has (behind (i ∷ is) rest) ks → Has (both (whole i is) rest) ks
rolls i [] rest ks h = h
rolls i (j ∷ is) rest ks h = regroups_back (grammar_of i) (whole j is) rest ks (h.0, h.1, h.2, h.3, rolls j is rest h.1 h.4)

exists_item : (i : Item) → Exists (grammar_of i)
exists_item (must kind) = (kind ∷ [], (kind, refl, eq-eqb kind kind refl))
exists_item (may kind) = ([], inl refl)
exists_item transformed = ([], inl refl)
exists_item named = (kinds.sname ∷ [], (kinds.sname, refl, refl))
exists_item (points len) = (kinds.xy ∷ [], (kinds.xy, refl, refl))

exists_items : (is : List Item) (rest : Grammar) → Exists rest → Exists (behind is rest)
exists_items [] rest some = some
exists_items (i ∷ is) rest some = exists_both (grammar_of i) (behind is rest) (exists_item i) (exists_items is rest some)

-- behind its first record a body has its items
body_moves : (kind : ℕ) (i : Item) (is : List Item) (rest : Grammar) → Moves (both (both (a kind) (whole i is)) rest) kind (behind (i ∷ is) rest)
body_moves kind i is rest =
    let m = moves_agreed (both (both (a kind) (whole i is)) rest) (both (a kind) (both (whole i is) rest)) (both (whole i is) rest) kind
    (agrees_regrouped (a kind) (whole i is) rest kind) (moves_one (λ j. eqb j kind) (both (whole i is) rest) kind
    (eq-eqb kind kind refl)) in
    record { on = λ ks h. unrolls i is rest ks (m.on ks h); back = λ ks h. m.back ks (rolls i is rest ks h) }

-- another body doesn't begin so
other : (kind k : ℕ) (g : Grammar) → eqb k kind ≡ false → Avoids (both (a kind) g) k
other kind k g e = avoids_a kind k g e

solid : (kind : ℕ) (g : Grammar) → IsSolid (both (a kind) g)
solid kind g = solid_both (a kind) g (solid_one (λ j. eqb j kind))

abbrev pub choice : Grammar
choice = (either grammar.boundary (either grammar.path (either grammar.sref (either grammar.aref (either grammar.text (either grammar.node grammar.box))))))

enters_boundary : (rest : Grammar) → Moves (both choice rest) kinds.boundary (behind (items_of kinds.boundary) rest)
enters_boundary rest =
    moves_agreed (both choice rest) (both grammar.boundary rest) (behind (items_of kinds.boundary) rest) kinds.boundary
    (takes_first grammar.boundary
    (either grammar.path (either grammar.sref (either grammar.aref (either grammar.text (either grammar.node grammar.box))))) rest
    kinds.boundary (avoids_either grammar.path
    (either grammar.sref (either grammar.aref (either grammar.text (either grammar.node grammar.box)))) kinds.boundary
    (other kinds.path kinds.boundary
    (whole (may kinds.elflags) (may kinds.plex ∷ must kinds.layer ∷ must kinds.datatype ∷ may kinds.pathtype ∷ may kinds.width ∷ may
    kinds.bgnextn ∷ may kinds.endextn ∷ must kinds.xy ∷ [])) refl)
    (avoids_either grammar.sref (either grammar.aref (either grammar.text (either grammar.node grammar.box))) kinds.boundary
    (other kinds.sref kinds.boundary (whole (may kinds.elflags) (may kinds.plex ∷ named ∷ transformed ∷ points 8 ∷ [])) refl)
    (avoids_either grammar.aref (either grammar.text (either grammar.node grammar.box)) kinds.boundary
    (other kinds.aref kinds.boundary (whole (may kinds.elflags) (may kinds.plex ∷ named ∷ transformed ∷ must kinds.colrow ∷ points 24 ∷ []))
    refl) (avoids_either grammar.text (either grammar.node grammar.box) kinds.boundary
    (other kinds.text kinds.boundary
    (whole (may kinds.elflags) (may kinds.plex ∷ must kinds.layer ∷ must kinds.texttype ∷ may kinds.presentation ∷ may kinds.pathtype
    ∷ may kinds.width ∷ transformed ∷ points 8 ∷ must kinds.text_string ∷ [])) refl) (avoids_either grammar.node grammar.box kinds.boundary
    (other kinds.node kinds.boundary
    (whole (may kinds.elflags) (may kinds.plex ∷ must kinds.layer ∷ must kinds.nodetype ∷ must kinds.xy ∷ [])) refl)
    (other kinds.box kinds.boundary
    (whole (may kinds.elflags) (may kinds.plex ∷ must kinds.layer ∷ must kinds.boxtype ∷ must kinds.xy ∷ [])) refl))))))
    (solid_either grammar.path (either grammar.sref (either grammar.aref (either grammar.text (either grammar.node grammar.box))))
    (solid kinds.path (whole (may kinds.elflags)
    (may kinds.plex ∷ must kinds.layer ∷ must kinds.datatype ∷ may kinds.pathtype ∷ may kinds.width ∷ may kinds.bgnextn ∷ may
    kinds.endextn ∷ must kinds.xy ∷ [])))
    (solid_either grammar.sref (either grammar.aref (either grammar.text (either grammar.node grammar.box)))
    (solid kinds.sref (whole (may kinds.elflags) (may kinds.plex ∷ named ∷ transformed ∷ points 8 ∷ [])))
    (solid_either grammar.aref (either grammar.text (either grammar.node grammar.box))
    (solid kinds.aref (whole (may kinds.elflags) (may kinds.plex ∷ named ∷ transformed ∷ must kinds.colrow ∷ points 24 ∷ [])))
    (solid_either grammar.text (either grammar.node grammar.box)
    (solid kinds.text (whole (may kinds.elflags)
    (may kinds.plex ∷ must kinds.layer ∷ must kinds.texttype ∷ may kinds.presentation ∷ may kinds.pathtype ∷ may kinds.width ∷ transformed
    ∷ points 8 ∷ must kinds.text_string ∷ [])))
    (solid_either grammar.node grammar.box
    (solid kinds.node (whole (may kinds.elflags) (may kinds.plex ∷ must kinds.layer ∷ must kinds.nodetype ∷ must kinds.xy ∷ [])))
    (solid kinds.box (whole (may kinds.elflags) (may kinds.plex ∷ must kinds.layer ∷ must kinds.boxtype ∷ must kinds.xy ∷ [])))))))))
    (body_moves kinds.boundary (may kinds.elflags) (may kinds.plex ∷ must kinds.layer ∷ must kinds.datatype ∷ must kinds.xy ∷ []) rest)

enters_path : (rest : Grammar) → Moves (both choice rest) kinds.path (behind (items_of kinds.path) rest)
enters_path rest =
    moves_agreed (both choice rest) (both grammar.path rest) (behind (items_of kinds.path) rest) kinds.path
    (agrees_both (both (either grammar.boundary
    (either grammar.path (either grammar.sref (either grammar.aref (either grammar.text (either grammar.node grammar.box)))))) rest)
    (both (either grammar.path (either grammar.sref (either grammar.aref (either grammar.text (either grammar.node grammar.box))))) rest)
    (both grammar.path rest) kinds.path
    (takes_second grammar.boundary
    (either grammar.path (either grammar.sref (either grammar.aref (either grammar.text (either grammar.node grammar.box))))) rest
    kinds.path (other kinds.boundary kinds.path
    (whole (may kinds.elflags) (may kinds.plex ∷ must kinds.layer ∷ must kinds.datatype ∷ must kinds.xy ∷ [])) refl)
    (solid kinds.boundary (whole (may kinds.elflags) (may kinds.plex ∷ must kinds.layer ∷ must kinds.datatype ∷ must kinds.xy ∷ []))))
    (takes_first grammar.path (either grammar.sref (either grammar.aref (either grammar.text (either grammar.node grammar.box)))) rest
    kinds.path (avoids_either grammar.sref (either grammar.aref (either grammar.text (either grammar.node grammar.box))) kinds.path
    (other kinds.sref kinds.path (whole (may kinds.elflags) (may kinds.plex ∷ named ∷ transformed ∷ points 8 ∷ [])) refl)
    (avoids_either grammar.aref (either grammar.text (either grammar.node grammar.box)) kinds.path
    (other kinds.aref kinds.path (whole (may kinds.elflags) (may kinds.plex ∷ named ∷ transformed ∷ must kinds.colrow ∷ points 24 ∷ [])) refl)
    (avoids_either grammar.text (either grammar.node grammar.box) kinds.path
    (other kinds.text kinds.path
    (whole (may kinds.elflags) (may kinds.plex ∷ must kinds.layer ∷ must kinds.texttype ∷ may kinds.presentation ∷ may kinds.pathtype
    ∷ may kinds.width ∷ transformed ∷ points 8 ∷ must kinds.text_string ∷ [])) refl) (avoids_either grammar.node grammar.box kinds.path
    (other kinds.node kinds.path
    (whole (may kinds.elflags) (may kinds.plex ∷ must kinds.layer ∷ must kinds.nodetype ∷ must kinds.xy ∷ [])) refl)
    (other kinds.box kinds.path (whole (may kinds.elflags) (may kinds.plex ∷ must kinds.layer ∷ must kinds.boxtype ∷ must kinds.xy ∷ []))
    refl))))) (solid_either grammar.sref (either grammar.aref (either grammar.text (either grammar.node grammar.box)))
    (solid kinds.sref (whole (may kinds.elflags) (may kinds.plex ∷ named ∷ transformed ∷ points 8 ∷ [])))
    (solid_either grammar.aref (either grammar.text (either grammar.node grammar.box))
    (solid kinds.aref (whole (may kinds.elflags) (may kinds.plex ∷ named ∷ transformed ∷ must kinds.colrow ∷ points 24 ∷ [])))
    (solid_either grammar.text (either grammar.node grammar.box)
    (solid kinds.text (whole (may kinds.elflags)
    (may kinds.plex ∷ must kinds.layer ∷ must kinds.texttype ∷ may kinds.presentation ∷ may kinds.pathtype ∷ may kinds.width ∷ transformed
    ∷ points 8 ∷ must kinds.text_string ∷ [])))
    (solid_either grammar.node grammar.box
    (solid kinds.node (whole (may kinds.elflags) (may kinds.plex ∷ must kinds.layer ∷ must kinds.nodetype ∷ must kinds.xy ∷ [])))
    (solid kinds.box (whole (may kinds.elflags) (may kinds.plex ∷ must kinds.layer ∷ must kinds.boxtype ∷ must kinds.xy ∷ [])))))))))
    (body_moves kinds.path (may kinds.elflags)
    (may kinds.plex ∷ must kinds.layer ∷ must kinds.datatype ∷ may kinds.pathtype ∷ may kinds.width ∷ may kinds.bgnextn ∷ may
    kinds.endextn ∷ must kinds.xy ∷ []) rest)

enters_sref : (rest : Grammar) → Moves (both choice rest) kinds.sref (behind (items_of kinds.sref) rest)
enters_sref rest =
    moves_agreed (both choice rest) (both grammar.sref rest) (behind (items_of kinds.sref) rest) kinds.sref
    (agrees_both (both (either grammar.boundary
    (either grammar.path (either grammar.sref (either grammar.aref (either grammar.text (either grammar.node grammar.box)))))) rest)
    (both (either grammar.path (either grammar.sref (either grammar.aref (either grammar.text (either grammar.node grammar.box))))) rest)
    (both grammar.sref rest) kinds.sref
    (takes_second grammar.boundary
    (either grammar.path (either grammar.sref (either grammar.aref (either grammar.text (either grammar.node grammar.box))))) rest
    kinds.sref (other kinds.boundary kinds.sref
    (whole (may kinds.elflags) (may kinds.plex ∷ must kinds.layer ∷ must kinds.datatype ∷ must kinds.xy ∷ [])) refl)
    (solid kinds.boundary (whole (may kinds.elflags) (may kinds.plex ∷ must kinds.layer ∷ must kinds.datatype ∷ must kinds.xy ∷ []))))
    (agrees_both (both (either grammar.path
    (either grammar.sref (either grammar.aref (either grammar.text (either grammar.node grammar.box))))) rest)
    (both (either grammar.sref (either grammar.aref (either grammar.text (either grammar.node grammar.box)))) rest)
    (both grammar.sref rest) kinds.sref
    (takes_second grammar.path (either grammar.sref (either grammar.aref (either grammar.text (either grammar.node grammar.box)))) rest
    kinds.sref (other kinds.path kinds.sref
    (whole (may kinds.elflags) (may kinds.plex ∷ must kinds.layer ∷ must kinds.datatype ∷ may kinds.pathtype ∷ may kinds.width ∷ may
    kinds.bgnextn ∷ may kinds.endextn ∷ must kinds.xy ∷ [])) refl)
    (solid kinds.path (whole (may kinds.elflags)
    (may kinds.plex ∷ must kinds.layer ∷ must kinds.datatype ∷ may kinds.pathtype ∷ may kinds.width ∷ may kinds.bgnextn ∷ may
    kinds.endextn ∷ must kinds.xy ∷ []))))
    (takes_first grammar.sref (either grammar.aref (either grammar.text (either grammar.node grammar.box))) rest kinds.sref
    (avoids_either grammar.aref (either grammar.text (either grammar.node grammar.box)) kinds.sref
    (other kinds.aref kinds.sref (whole (may kinds.elflags) (may kinds.plex ∷ named ∷ transformed ∷ must kinds.colrow ∷ points 24 ∷ [])) refl)
    (avoids_either grammar.text (either grammar.node grammar.box) kinds.sref
    (other kinds.text kinds.sref
    (whole (may kinds.elflags) (may kinds.plex ∷ must kinds.layer ∷ must kinds.texttype ∷ may kinds.presentation ∷ may kinds.pathtype
    ∷ may kinds.width ∷ transformed ∷ points 8 ∷ must kinds.text_string ∷ [])) refl) (avoids_either grammar.node grammar.box kinds.sref
    (other kinds.node kinds.sref
    (whole (may kinds.elflags) (may kinds.plex ∷ must kinds.layer ∷ must kinds.nodetype ∷ must kinds.xy ∷ [])) refl)
    (other kinds.box kinds.sref (whole (may kinds.elflags) (may kinds.plex ∷ must kinds.layer ∷ must kinds.boxtype ∷ must kinds.xy ∷ []))
    refl)))) (solid_either grammar.aref (either grammar.text (either grammar.node grammar.box))
    (solid kinds.aref (whole (may kinds.elflags) (may kinds.plex ∷ named ∷ transformed ∷ must kinds.colrow ∷ points 24 ∷ [])))
    (solid_either grammar.text (either grammar.node grammar.box)
    (solid kinds.text (whole (may kinds.elflags)
    (may kinds.plex ∷ must kinds.layer ∷ must kinds.texttype ∷ may kinds.presentation ∷ may kinds.pathtype ∷ may kinds.width ∷ transformed
    ∷ points 8 ∷ must kinds.text_string ∷ [])))
    (solid_either grammar.node grammar.box
    (solid kinds.node (whole (may kinds.elflags) (may kinds.plex ∷ must kinds.layer ∷ must kinds.nodetype ∷ must kinds.xy ∷ [])))
    (solid kinds.box (whole (may kinds.elflags) (may kinds.plex ∷ must kinds.layer ∷ must kinds.boxtype ∷ must kinds.xy ∷ [])))))))))
    (body_moves kinds.sref (may kinds.elflags) (may kinds.plex ∷ named ∷ transformed ∷ points 8 ∷ []) rest)

enters_aref : (rest : Grammar) → Moves (both choice rest) kinds.aref (behind (items_of kinds.aref) rest)
enters_aref rest =
    moves_agreed (both choice rest) (both grammar.aref rest) (behind (items_of kinds.aref) rest) kinds.aref
    (agrees_both (both (either grammar.boundary
    (either grammar.path (either grammar.sref (either grammar.aref (either grammar.text (either grammar.node grammar.box)))))) rest)
    (both (either grammar.path (either grammar.sref (either grammar.aref (either grammar.text (either grammar.node grammar.box))))) rest)
    (both grammar.aref rest) kinds.aref
    (takes_second grammar.boundary
    (either grammar.path (either grammar.sref (either grammar.aref (either grammar.text (either grammar.node grammar.box))))) rest
    kinds.aref (other kinds.boundary kinds.aref
    (whole (may kinds.elflags) (may kinds.plex ∷ must kinds.layer ∷ must kinds.datatype ∷ must kinds.xy ∷ [])) refl)
    (solid kinds.boundary (whole (may kinds.elflags) (may kinds.plex ∷ must kinds.layer ∷ must kinds.datatype ∷ must kinds.xy ∷ []))))
    (agrees_both (both (either grammar.path
    (either grammar.sref (either grammar.aref (either grammar.text (either grammar.node grammar.box))))) rest)
    (both (either grammar.sref (either grammar.aref (either grammar.text (either grammar.node grammar.box)))) rest)
    (both grammar.aref rest) kinds.aref
    (takes_second grammar.path (either grammar.sref (either grammar.aref (either grammar.text (either grammar.node grammar.box)))) rest
    kinds.aref (other kinds.path kinds.aref
    (whole (may kinds.elflags) (may kinds.plex ∷ must kinds.layer ∷ must kinds.datatype ∷ may kinds.pathtype ∷ may kinds.width ∷ may
    kinds.bgnextn ∷ may kinds.endextn ∷ must kinds.xy ∷ [])) refl)
    (solid kinds.path (whole (may kinds.elflags)
    (may kinds.plex ∷ must kinds.layer ∷ must kinds.datatype ∷ may kinds.pathtype ∷ may kinds.width ∷ may kinds.bgnextn ∷ may
    kinds.endextn ∷ must kinds.xy ∷ []))))
    (agrees_both (both (either grammar.sref (either grammar.aref (either grammar.text (either grammar.node grammar.box)))) rest)
    (both (either grammar.aref (either grammar.text (either grammar.node grammar.box))) rest) (both grammar.aref rest) kinds.aref
    (takes_second grammar.sref (either grammar.aref (either grammar.text (either grammar.node grammar.box))) rest kinds.aref
    (other kinds.sref kinds.aref (whole (may kinds.elflags) (may kinds.plex ∷ named ∷ transformed ∷ points 8 ∷ [])) refl)
    (solid kinds.sref (whole (may kinds.elflags) (may kinds.plex ∷ named ∷ transformed ∷ points 8 ∷ []))))
    (takes_first grammar.aref (either grammar.text (either grammar.node grammar.box)) rest kinds.aref
    (avoids_either grammar.text (either grammar.node grammar.box) kinds.aref
    (other kinds.text kinds.aref
    (whole (may kinds.elflags) (may kinds.plex ∷ must kinds.layer ∷ must kinds.texttype ∷ may kinds.presentation ∷ may kinds.pathtype
    ∷ may kinds.width ∷ transformed ∷ points 8 ∷ must kinds.text_string ∷ [])) refl) (avoids_either grammar.node grammar.box kinds.aref
    (other kinds.node kinds.aref
    (whole (may kinds.elflags) (may kinds.plex ∷ must kinds.layer ∷ must kinds.nodetype ∷ must kinds.xy ∷ [])) refl)
    (other kinds.box kinds.aref (whole (may kinds.elflags) (may kinds.plex ∷ must kinds.layer ∷ must kinds.boxtype ∷ must kinds.xy ∷ []))
    refl))) (solid_either grammar.text (either grammar.node grammar.box)
    (solid kinds.text (whole (may kinds.elflags)
    (may kinds.plex ∷ must kinds.layer ∷ must kinds.texttype ∷ may kinds.presentation ∷ may kinds.pathtype ∷ may kinds.width ∷ transformed
    ∷ points 8 ∷ must kinds.text_string ∷ [])))
    (solid_either grammar.node grammar.box
    (solid kinds.node (whole (may kinds.elflags) (may kinds.plex ∷ must kinds.layer ∷ must kinds.nodetype ∷ must kinds.xy ∷ [])))
    (solid kinds.box (whole (may kinds.elflags) (may kinds.plex ∷ must kinds.layer ∷ must kinds.boxtype ∷ must kinds.xy ∷ [])))))))))
    (body_moves kinds.aref (may kinds.elflags) (may kinds.plex ∷ named ∷ transformed ∷ must kinds.colrow ∷ points 24 ∷ []) rest)

enters_text : (rest : Grammar) → Moves (both choice rest) kinds.text (behind (items_of kinds.text) rest)
enters_text rest =
    moves_agreed (both choice rest) (both grammar.text rest) (behind (items_of kinds.text) rest) kinds.text
    (agrees_both (both (either grammar.boundary
    (either grammar.path (either grammar.sref (either grammar.aref (either grammar.text (either grammar.node grammar.box)))))) rest)
    (both (either grammar.path (either grammar.sref (either grammar.aref (either grammar.text (either grammar.node grammar.box))))) rest)
    (both grammar.text rest) kinds.text
    (takes_second grammar.boundary
    (either grammar.path (either grammar.sref (either grammar.aref (either grammar.text (either grammar.node grammar.box))))) rest
    kinds.text (other kinds.boundary kinds.text
    (whole (may kinds.elflags) (may kinds.plex ∷ must kinds.layer ∷ must kinds.datatype ∷ must kinds.xy ∷ [])) refl)
    (solid kinds.boundary (whole (may kinds.elflags) (may kinds.plex ∷ must kinds.layer ∷ must kinds.datatype ∷ must kinds.xy ∷ []))))
    (agrees_both (both (either grammar.path
    (either grammar.sref (either grammar.aref (either grammar.text (either grammar.node grammar.box))))) rest)
    (both (either grammar.sref (either grammar.aref (either grammar.text (either grammar.node grammar.box)))) rest)
    (both grammar.text rest) kinds.text
    (takes_second grammar.path (either grammar.sref (either grammar.aref (either grammar.text (either grammar.node grammar.box)))) rest
    kinds.text (other kinds.path kinds.text
    (whole (may kinds.elflags) (may kinds.plex ∷ must kinds.layer ∷ must kinds.datatype ∷ may kinds.pathtype ∷ may kinds.width ∷ may
    kinds.bgnextn ∷ may kinds.endextn ∷ must kinds.xy ∷ [])) refl)
    (solid kinds.path (whole (may kinds.elflags)
    (may kinds.plex ∷ must kinds.layer ∷ must kinds.datatype ∷ may kinds.pathtype ∷ may kinds.width ∷ may kinds.bgnextn ∷ may
    kinds.endextn ∷ must kinds.xy ∷ []))))
    (agrees_both (both (either grammar.sref (either grammar.aref (either grammar.text (either grammar.node grammar.box)))) rest)
    (both (either grammar.aref (either grammar.text (either grammar.node grammar.box))) rest) (both grammar.text rest) kinds.text
    (takes_second grammar.sref (either grammar.aref (either grammar.text (either grammar.node grammar.box))) rest kinds.text
    (other kinds.sref kinds.text (whole (may kinds.elflags) (may kinds.plex ∷ named ∷ transformed ∷ points 8 ∷ [])) refl)
    (solid kinds.sref (whole (may kinds.elflags) (may kinds.plex ∷ named ∷ transformed ∷ points 8 ∷ []))))
    (agrees_both (both (either grammar.aref (either grammar.text (either grammar.node grammar.box))) rest)
    (both (either grammar.text (either grammar.node grammar.box)) rest) (both grammar.text rest) kinds.text
    (takes_second grammar.aref (either grammar.text (either grammar.node grammar.box)) rest kinds.text
    (other kinds.aref kinds.text (whole (may kinds.elflags) (may kinds.plex ∷ named ∷ transformed ∷ must kinds.colrow ∷ points 24 ∷ [])) refl)
    (solid kinds.aref (whole (may kinds.elflags) (may kinds.plex ∷ named ∷ transformed ∷ must kinds.colrow ∷ points 24 ∷ []))))
    (takes_first grammar.text (either grammar.node grammar.box) rest kinds.text (avoids_either grammar.node grammar.box kinds.text
    (other kinds.node kinds.text
    (whole (may kinds.elflags) (may kinds.plex ∷ must kinds.layer ∷ must kinds.nodetype ∷ must kinds.xy ∷ [])) refl)
    (other kinds.box kinds.text (whole (may kinds.elflags) (may kinds.plex ∷ must kinds.layer ∷ must kinds.boxtype ∷ must kinds.xy ∷ []))
    refl)) (solid_either grammar.node grammar.box
    (solid kinds.node (whole (may kinds.elflags) (may kinds.plex ∷ must kinds.layer ∷ must kinds.nodetype ∷ must kinds.xy ∷ [])))
    (solid kinds.box (whole (may kinds.elflags) (may kinds.plex ∷ must kinds.layer ∷ must kinds.boxtype ∷ must kinds.xy ∷ [])))))))))
    (body_moves kinds.text (may kinds.elflags)
    (may kinds.plex ∷ must kinds.layer ∷ must kinds.texttype ∷ may kinds.presentation ∷ may kinds.pathtype ∷ may kinds.width ∷ transformed
    ∷ points 8 ∷ must kinds.text_string ∷ []) rest)

enters_node : (rest : Grammar) → Moves (both choice rest) kinds.node (behind (items_of kinds.node) rest)
enters_node rest =
    moves_agreed (both choice rest) (both grammar.node rest) (behind (items_of kinds.node) rest) kinds.node
    (agrees_both (both (either grammar.boundary
    (either grammar.path (either grammar.sref (either grammar.aref (either grammar.text (either grammar.node grammar.box)))))) rest)
    (both (either grammar.path (either grammar.sref (either grammar.aref (either grammar.text (either grammar.node grammar.box))))) rest)
    (both grammar.node rest) kinds.node
    (takes_second grammar.boundary
    (either grammar.path (either grammar.sref (either grammar.aref (either grammar.text (either grammar.node grammar.box))))) rest
    kinds.node (other kinds.boundary kinds.node
    (whole (may kinds.elflags) (may kinds.plex ∷ must kinds.layer ∷ must kinds.datatype ∷ must kinds.xy ∷ [])) refl)
    (solid kinds.boundary (whole (may kinds.elflags) (may kinds.plex ∷ must kinds.layer ∷ must kinds.datatype ∷ must kinds.xy ∷ []))))
    (agrees_both (both (either grammar.path
    (either grammar.sref (either grammar.aref (either grammar.text (either grammar.node grammar.box))))) rest)
    (both (either grammar.sref (either grammar.aref (either grammar.text (either grammar.node grammar.box)))) rest)
    (both grammar.node rest) kinds.node
    (takes_second grammar.path (either grammar.sref (either grammar.aref (either grammar.text (either grammar.node grammar.box)))) rest
    kinds.node (other kinds.path kinds.node
    (whole (may kinds.elflags) (may kinds.plex ∷ must kinds.layer ∷ must kinds.datatype ∷ may kinds.pathtype ∷ may kinds.width ∷ may
    kinds.bgnextn ∷ may kinds.endextn ∷ must kinds.xy ∷ [])) refl)
    (solid kinds.path (whole (may kinds.elflags)
    (may kinds.plex ∷ must kinds.layer ∷ must kinds.datatype ∷ may kinds.pathtype ∷ may kinds.width ∷ may kinds.bgnextn ∷ may
    kinds.endextn ∷ must kinds.xy ∷ []))))
    (agrees_both (both (either grammar.sref (either grammar.aref (either grammar.text (either grammar.node grammar.box)))) rest)
    (both (either grammar.aref (either grammar.text (either grammar.node grammar.box))) rest) (both grammar.node rest) kinds.node
    (takes_second grammar.sref (either grammar.aref (either grammar.text (either grammar.node grammar.box))) rest kinds.node
    (other kinds.sref kinds.node (whole (may kinds.elflags) (may kinds.plex ∷ named ∷ transformed ∷ points 8 ∷ [])) refl)
    (solid kinds.sref (whole (may kinds.elflags) (may kinds.plex ∷ named ∷ transformed ∷ points 8 ∷ []))))
    (agrees_both (both (either grammar.aref (either grammar.text (either grammar.node grammar.box))) rest)
    (both (either grammar.text (either grammar.node grammar.box)) rest) (both grammar.node rest) kinds.node
    (takes_second grammar.aref (either grammar.text (either grammar.node grammar.box)) rest kinds.node
    (other kinds.aref kinds.node (whole (may kinds.elflags) (may kinds.plex ∷ named ∷ transformed ∷ must kinds.colrow ∷ points 24 ∷ [])) refl)
    (solid kinds.aref (whole (may kinds.elflags) (may kinds.plex ∷ named ∷ transformed ∷ must kinds.colrow ∷ points 24 ∷ []))))
    (agrees_both (both (either grammar.text (either grammar.node grammar.box)) rest) (both (either grammar.node grammar.box) rest)
    (both grammar.node rest) kinds.node (takes_second grammar.text (either grammar.node grammar.box) rest kinds.node
    (other kinds.text kinds.node
    (whole (may kinds.elflags) (may kinds.plex ∷ must kinds.layer ∷ must kinds.texttype ∷ may kinds.presentation ∷ may kinds.pathtype
    ∷ may kinds.width ∷ transformed ∷ points 8 ∷ must kinds.text_string ∷ [])) refl)
    (solid kinds.text (whole (may kinds.elflags)
    (may kinds.plex ∷ must kinds.layer ∷ must kinds.texttype ∷ may kinds.presentation ∷ may kinds.pathtype ∷ may kinds.width ∷ transformed
    ∷ points 8 ∷ must kinds.text_string ∷ [])))) (takes_first grammar.node grammar.box rest kinds.node
    (other kinds.box kinds.node (whole (may kinds.elflags) (may kinds.plex ∷ must kinds.layer ∷ must kinds.boxtype ∷ must kinds.xy ∷ []))
    refl) (solid kinds.box
    (whole (may kinds.elflags) (may kinds.plex ∷ must kinds.layer ∷ must kinds.boxtype ∷ must kinds.xy ∷ [])))))))))
    (body_moves kinds.node (may kinds.elflags) (may kinds.plex ∷ must kinds.layer ∷ must kinds.nodetype ∷ must kinds.xy ∷ []) rest)

enters_box : (rest : Grammar) → Moves (both choice rest) kinds.box (behind (items_of kinds.box) rest)
enters_box rest =
    moves_agreed (both choice rest) (both grammar.box rest) (behind (items_of kinds.box) rest) kinds.box
    (agrees_both (both (either grammar.boundary
    (either grammar.path (either grammar.sref (either grammar.aref (either grammar.text (either grammar.node grammar.box)))))) rest)
    (both (either grammar.path (either grammar.sref (either grammar.aref (either grammar.text (either grammar.node grammar.box))))) rest)
    (both grammar.box rest) kinds.box
    (takes_second grammar.boundary
    (either grammar.path (either grammar.sref (either grammar.aref (either grammar.text (either grammar.node grammar.box))))) rest
    kinds.box (other kinds.boundary kinds.box
    (whole (may kinds.elflags) (may kinds.plex ∷ must kinds.layer ∷ must kinds.datatype ∷ must kinds.xy ∷ [])) refl)
    (solid kinds.boundary (whole (may kinds.elflags) (may kinds.plex ∷ must kinds.layer ∷ must kinds.datatype ∷ must kinds.xy ∷ []))))
    (agrees_both (both (either grammar.path
    (either grammar.sref (either grammar.aref (either grammar.text (either grammar.node grammar.box))))) rest)
    (both (either grammar.sref (either grammar.aref (either grammar.text (either grammar.node grammar.box)))) rest)
    (both grammar.box rest) kinds.box
    (takes_second grammar.path (either grammar.sref (either grammar.aref (either grammar.text (either grammar.node grammar.box)))) rest
    kinds.box (other kinds.path kinds.box
    (whole (may kinds.elflags) (may kinds.plex ∷ must kinds.layer ∷ must kinds.datatype ∷ may kinds.pathtype ∷ may kinds.width ∷ may
    kinds.bgnextn ∷ may kinds.endextn ∷ must kinds.xy ∷ [])) refl)
    (solid kinds.path (whole (may kinds.elflags)
    (may kinds.plex ∷ must kinds.layer ∷ must kinds.datatype ∷ may kinds.pathtype ∷ may kinds.width ∷ may kinds.bgnextn ∷ may
    kinds.endextn ∷ must kinds.xy ∷ []))))
    (agrees_both (both (either grammar.sref (either grammar.aref (either grammar.text (either grammar.node grammar.box)))) rest)
    (both (either grammar.aref (either grammar.text (either grammar.node grammar.box))) rest) (both grammar.box rest) kinds.box
    (takes_second grammar.sref (either grammar.aref (either grammar.text (either grammar.node grammar.box))) rest kinds.box
    (other kinds.sref kinds.box (whole (may kinds.elflags) (may kinds.plex ∷ named ∷ transformed ∷ points 8 ∷ [])) refl)
    (solid kinds.sref (whole (may kinds.elflags) (may kinds.plex ∷ named ∷ transformed ∷ points 8 ∷ []))))
    (agrees_both (both (either grammar.aref (either grammar.text (either grammar.node grammar.box))) rest)
    (both (either grammar.text (either grammar.node grammar.box)) rest) (both grammar.box rest) kinds.box
    (takes_second grammar.aref (either grammar.text (either grammar.node grammar.box)) rest kinds.box
    (other kinds.aref kinds.box (whole (may kinds.elflags) (may kinds.plex ∷ named ∷ transformed ∷ must kinds.colrow ∷ points 24 ∷ [])) refl)
    (solid kinds.aref (whole (may kinds.elflags) (may kinds.plex ∷ named ∷ transformed ∷ must kinds.colrow ∷ points 24 ∷ []))))
    (agrees_both (both (either grammar.text (either grammar.node grammar.box)) rest) (both (either grammar.node grammar.box) rest)
    (both grammar.box rest) kinds.box (takes_second grammar.text (either grammar.node grammar.box) rest kinds.box
    (other kinds.text kinds.box
    (whole (may kinds.elflags) (may kinds.plex ∷ must kinds.layer ∷ must kinds.texttype ∷ may kinds.presentation ∷ may kinds.pathtype
    ∷ may kinds.width ∷ transformed ∷ points 8 ∷ must kinds.text_string ∷ [])) refl)
    (solid kinds.text (whole (may kinds.elflags)
    (may kinds.plex ∷ must kinds.layer ∷ must kinds.texttype ∷ may kinds.presentation ∷ may kinds.pathtype ∷ may kinds.width ∷ transformed
    ∷ points 8 ∷ must kinds.text_string ∷ [])))) (takes_second grammar.node grammar.box rest kinds.box
    (other kinds.node kinds.box
    (whole (may kinds.elflags) (may kinds.plex ∷ must kinds.layer ∷ must kinds.nodetype ∷ must kinds.xy ∷ [])) refl)
    (solid kinds.node (whole (may kinds.elflags) (may kinds.plex ∷ must kinds.layer ∷ must kinds.nodetype ∷ must kinds.xy ∷ [])))))))))
    (body_moves kinds.box (may kinds.elflags) (may kinds.plex ∷ must kinds.layer ∷ must kinds.boxtype ∷ must kinds.xy ∷ []) rest)

enters : (rest : Grammar) (k : ℕ) → kinds.begins_element k ≡ true → Moves (both choice rest) k (behind (items_of k) rest)
enters rest = by_kind (λ k. Moves (both choice rest) k (behind (items_of k) rest)) (enters_boundary rest) (enters_path rest)
    (enters_sref rest) (enters_aref rest) (enters_text rest) (enters_node rest) (enters_box rest)

-- ---- reading a body

abbrev pub tail : Grammar
tail = both (many (both (a kinds.propattr) (a kinds.propvalue))) (a kinds.endel)

-- the first record of an element is refused for nothing, and ends nothing
not_refused : (o : ℕ) (known : List (List ℕ)) (at : ℕ) (body : List ℕ) (k : ℕ) → kinds.begins_element k ≡ true → refusal_in o known k at body ≡ None
unfolding refusal_in
not_refused o known at body = by_kind (λ k. refusal_in o known k at body ≡ None) refl refl refl refl refl refl refl

not_last : (k : ℕ) → kinds.begins_element k ≡ true → eqb k kinds.endlib ≡ false
not_last = by_kind (λ k. eqb k kinds.endlib ≡ false) refl refl refl refl refl refl refl

pub owner_push : (before : List Record) (r : Record) → kinds.begins_element r.kind ≡ true → owner (before ++ r ∷ []) ≡ r.kind
owner_push before r begins =
    fold_push (λ kind s. cond (kinds.begins_element s.kind) s.kind kind) 0 before r ∙ ap (λ (b : Bool). cond b r.kind (owner before)) begins

pub avoids_choice : (k : ℕ) → kinds.begins_element k ≡ false → Avoids choice k
avoids_choice k e =
    avoids_either grammar.boundary
    (either grammar.path (either grammar.sref (either grammar.aref (either grammar.text (either grammar.node grammar.box))))) k
    (other kinds.boundary k (whole (may kinds.elflags) (may kinds.plex ∷ must kinds.layer ∷ must kinds.datatype ∷ must kinds.xy ∷ []))
    (or_first (eqb k kinds.boundary) (eqb k kinds.path) (or_first ((eqb k kinds.boundary) || eqb k kinds.path) (eqb k kinds.sref)
    (or_first (((eqb k kinds.boundary) || eqb k kinds.path) || eqb k kinds.sref) (eqb k kinds.aref)
    (or_first ((((eqb k kinds.boundary) || eqb k kinds.path) || eqb k kinds.sref) || eqb k kinds.aref) (eqb k kinds.text)
    (or_first (((((eqb k kinds.boundary) || eqb k kinds.path) || eqb k kinds.sref) || eqb k kinds.aref) || eqb k kinds.text)
    (eqb k kinds.node) (or_first
    ((((((eqb k kinds.boundary) || eqb k kinds.path) || eqb k kinds.sref) || eqb k kinds.aref) || eqb k kinds.text) || eqb k kinds.node)
    (eqb k kinds.box) e)))))))
    (avoids_either grammar.path (either grammar.sref (either grammar.aref (either grammar.text (either grammar.node grammar.box)))) k
    (other kinds.path k
    (whole (may kinds.elflags) (may kinds.plex ∷ must kinds.layer ∷ must kinds.datatype ∷ may kinds.pathtype ∷ may kinds.width ∷ may
    kinds.bgnextn ∷ may kinds.endextn ∷ must kinds.xy ∷ [])) (or_second (eqb k kinds.boundary) (eqb k kinds.path)
    (or_first ((eqb k kinds.boundary) || eqb k kinds.path) (eqb k kinds.sref)
    (or_first (((eqb k kinds.boundary) || eqb k kinds.path) || eqb k kinds.sref) (eqb k kinds.aref)
    (or_first ((((eqb k kinds.boundary) || eqb k kinds.path) || eqb k kinds.sref) || eqb k kinds.aref) (eqb k kinds.text)
    (or_first (((((eqb k kinds.boundary) || eqb k kinds.path) || eqb k kinds.sref) || eqb k kinds.aref) || eqb k kinds.text)
    (eqb k kinds.node) (or_first
    ((((((eqb k kinds.boundary) || eqb k kinds.path) || eqb k kinds.sref) || eqb k kinds.aref) || eqb k kinds.text) || eqb k kinds.node)
    (eqb k kinds.box) e))))))) (avoids_either grammar.sref (either grammar.aref (either grammar.text (either grammar.node grammar.box)))
    k (other kinds.sref k (whole (may kinds.elflags) (may kinds.plex ∷ named ∷ transformed ∷ points 8 ∷ []))
    (or_second ((eqb k kinds.boundary) || eqb k kinds.path) (eqb k kinds.sref)
    (or_first (((eqb k kinds.boundary) || eqb k kinds.path) || eqb k kinds.sref) (eqb k kinds.aref)
    (or_first ((((eqb k kinds.boundary) || eqb k kinds.path) || eqb k kinds.sref) || eqb k kinds.aref) (eqb k kinds.text)
    (or_first (((((eqb k kinds.boundary) || eqb k kinds.path) || eqb k kinds.sref) || eqb k kinds.aref) || eqb k kinds.text)
    (eqb k kinds.node) (or_first
    ((((((eqb k kinds.boundary) || eqb k kinds.path) || eqb k kinds.sref) || eqb k kinds.aref) || eqb k kinds.text) || eqb k kinds.node)
    (eqb k kinds.box) e)))))) (avoids_either grammar.aref (either grammar.text (either grammar.node grammar.box)) k
    (other kinds.aref k (whole (may kinds.elflags) (may kinds.plex ∷ named ∷ transformed ∷ must kinds.colrow ∷ points 24 ∷ []))
    (or_second (((eqb k kinds.boundary) || eqb k kinds.path) || eqb k kinds.sref) (eqb k kinds.aref)
    (or_first ((((eqb k kinds.boundary) || eqb k kinds.path) || eqb k kinds.sref) || eqb k kinds.aref) (eqb k kinds.text)
    (or_first (((((eqb k kinds.boundary) || eqb k kinds.path) || eqb k kinds.sref) || eqb k kinds.aref) || eqb k kinds.text)
    (eqb k kinds.node) (or_first
    ((((((eqb k kinds.boundary) || eqb k kinds.path) || eqb k kinds.sref) || eqb k kinds.aref) || eqb k kinds.text) || eqb k kinds.node)
    (eqb k kinds.box) e))))) (avoids_either grammar.text (either grammar.node grammar.box) k
    (other kinds.text k
    (whole (may kinds.elflags) (may kinds.plex ∷ must kinds.layer ∷ must kinds.texttype ∷ may kinds.presentation ∷ may kinds.pathtype
    ∷ may kinds.width ∷ transformed ∷ points 8 ∷ must kinds.text_string ∷ []))
    (or_second ((((eqb k kinds.boundary) || eqb k kinds.path) || eqb k kinds.sref) || eqb k kinds.aref) (eqb k kinds.text)
    (or_first (((((eqb k kinds.boundary) || eqb k kinds.path) || eqb k kinds.sref) || eqb k kinds.aref) || eqb k kinds.text)
    (eqb k kinds.node) (or_first
    ((((((eqb k kinds.boundary) || eqb k kinds.path) || eqb k kinds.sref) || eqb k kinds.aref) || eqb k kinds.text) || eqb k kinds.node)
    (eqb k kinds.box) e))))
    (avoids_either grammar.node grammar.box k
    (other kinds.node k (whole (may kinds.elflags) (may kinds.plex ∷ must kinds.layer ∷ must kinds.nodetype ∷ must kinds.xy ∷ []))
    (or_second (((((eqb k kinds.boundary) || eqb k kinds.path) || eqb k kinds.sref) || eqb k kinds.aref) || eqb k kinds.text)
    (eqb k kinds.node) (or_first
    ((((((eqb k kinds.boundary) || eqb k kinds.path) || eqb k kinds.sref) || eqb k kinds.aref) || eqb k kinds.text) || eqb k kinds.node)
    (eqb k kinds.box) e)))
    (other kinds.box k (whole (may kinds.elflags) (may kinds.plex ∷ must kinds.layer ∷ must kinds.boxtype ∷ must kinds.xy ∷ []))
    (or_second ((((((eqb k kinds.boundary) || eqb k kinds.path) || eqb k kinds.sref) || eqb k kinds.aref) || eqb k kinds.text) || eqb k
    kinds.node) (eqb k kinds.box) e)))))))

pub solid_choice : IsSolid choice
solid_choice = (solid_either grammar.boundary
    (either grammar.path (either grammar.sref (either grammar.aref (either grammar.text (either grammar.node grammar.box)))))
    (solid kinds.boundary (whole (may kinds.elflags) (may kinds.plex ∷ must kinds.layer ∷ must kinds.datatype ∷ must kinds.xy ∷ [])))
    (solid_either grammar.path (either grammar.sref (either grammar.aref (either grammar.text (either grammar.node grammar.box))))
    (solid kinds.path (whole (may kinds.elflags)
    (may kinds.plex ∷ must kinds.layer ∷ must kinds.datatype ∷ may kinds.pathtype ∷ may kinds.width ∷ may kinds.bgnextn ∷ may kinds.endextn
    ∷ must kinds.xy ∷ []))) (solid_either grammar.sref (either grammar.aref (either grammar.text (either grammar.node grammar.box)))
    (solid kinds.sref (whole (may kinds.elflags) (may kinds.plex ∷ named ∷ transformed ∷ points 8 ∷ [])))
    (solid_either grammar.aref (either grammar.text (either grammar.node grammar.box))
    (solid kinds.aref (whole (may kinds.elflags) (may kinds.plex ∷ named ∷ transformed ∷ must kinds.colrow ∷ points 24 ∷ [])))
    (solid_either grammar.text (either grammar.node grammar.box)
    (solid kinds.text (whole (may kinds.elflags)
    (may kinds.plex ∷ must kinds.layer ∷ must kinds.texttype ∷ may kinds.presentation ∷ may kinds.pathtype ∷ may kinds.width ∷ transformed
    ∷ points 8 ∷ must kinds.text_string ∷ [])))
    (solid_either grammar.node grammar.box
    (solid kinds.node (whole (may kinds.elflags) (may kinds.plex ∷ must kinds.layer ∷ must kinds.nodetype ∷ must kinds.xy ∷ [])))
    (solid kinds.box (whole (may kinds.elflags) (may kinds.plex ∷ must kinds.layer ∷ must kinds.boxtype ∷ must kinds.xy ∷ [])))))))))

module _ (bytes : List ℕ) (before : List Record) (rest : Grammar) (at : ℕ) (r : Record)
    (reached : Reached bytes before (both grammar.element rest) at) (found : record_at bytes at ≡ Ok r)
    (begins : kinds.begins_element r.kind ≡ true) where
  pub in_body : Reached bytes (before ++ r ∷ []) (behind (items_of r.kind) (both tail rest)) r.next
  in_body =
      let end : Exists rest = exists_rest grammar.element rest reached.some in
      let some : Exists (behind (items_of r.kind) (both tail rest)) = exists_items (items_of r.kind) (both tail rest)
      (exists_both tail rest (kinds.endel ∷ [], ([], kinds.endel ∷ [], refl, ([], refl, tt), (kinds.endel, refl, refl))) end) in
      let moves : Moves (both grammar.element rest) r.kind (behind (items_of r.kind) (both tail rest)) =
      moves_agreed (both grammar.element rest) (both choice (both tail rest)) (behind (items_of r.kind) (both tail rest)) r.kind
      (agrees_regrouped choice tail rest r.kind) (enters (both tail rest) r.kind begins) in
      moved bytes before at (both grammar.element rest) (behind (items_of r.kind) (both tail rest)) r reached found moves some
      (not_refused (owner before) (names before) r.at r.body r.kind begins) (eqb-false r.kind kinds.endlib (not_last r.kind begins))

  pub body_ok : (y : Body × ℕ) → body_at bytes r.kind r.next ≡ Ok y → (ss : Slots) × (y.0 ≡ body_of r.kind (pick ss)) × Goes bytes (before ++ r ∷ []) (both tail rest) (ss, y.1)
  body_ok y e =
      let b = bind_ok (reading.items_at bytes (items_of r.kind) r.next) (λ found. Ok (body_of r.kind (pick found.0), found.1)) y e in
      let goes = items_ok bytes r.kind (both tail rest) (items_of r.kind) (before ++ r ∷ []) r.next (owner_push before r begins)
      (fits (both tail rest) r.kind begins) b.0 in_body b.1 in
      let same : (body_of r.kind (pick b.0.0), b.0.1) ≡ y = ok_is (body_of r.kind (pick b.0.0), b.0.1) y b.2 in
      (b.0.0, sym (ap (λ (z : Body × ℕ). z.0) same), subst (λ (n : ℕ). Goes bytes (before ++ r ∷ []) (both tail rest) (b.0.0, n)) (ap (λ (z : Body × ℕ). z.1) same) goes)

  pub body_err : (f : Fault) → body_at bytes r.kind r.next ≡ Err f → IsFirstFault bytes f
  body_err f e =
      elim (bind_err (reading.items_at bytes (items_of r.kind) r.next) (λ found. Ok (body_of r.kind (pick found.0), found.1)) f e) [
        | inl x ↦ items_err bytes r.kind (both tail rest) (items_of r.kind) (before ++ r ∷ []) r.next (owner_push before r begins) (fits (both tail rest) r.kind begins) f in_body x
        | inr b ↦ (let all : Body × ℕ = (body_of r.kind (pick b.0.0), b.0.1) in absurd (not_ok all f b.2))
      ]
