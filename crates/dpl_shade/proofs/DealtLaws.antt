-- What items shade of one another, found by workers to whom strips are dealt.
use Rattle.std.proofs.Common.{◌≡◌, ℕ, ◌+◌, ◌%◌, ◌<◌, ◌≤◌, ◌⊎◌, inl, inr, Bool, true, false, List, [], ◌∷◌, ◌++◌, length, get_or, sym, refl, ap, ◌∙◌, subst, arith}
use Rattle.std.specs.Prelude.{◌↔◌, Vec, Result, Ok, IfOk}
use Rattle.std.specs.Global.{Global}
use Rattle.std.specs.List.{Contains}
use Rattle.std.proofs.Math.ListN.{set}
use Rattle.std.proofs.Math.Nat.{mod-lt, mod-one}
use Rattle.std.proofs.lemmas.Bool.{cases_eq, cases_lt}
use Rattle.std.proofs.lemmas.List.{get_or_append_left, get_or_at, get_or_past, length_push, length-set}
use Rattle.std.proofs.lemmas.List.Elements.{Contains-append_cases, Contains-append_left, Contains-append_right}
use Rattle.dpl_spec_split.specs.declared.Spacing.{Spacing}
use Rattle.dpl_join.specs.declared.items.Item.{Item}
use Rattle.dpl_join.specs.Joins.{HaveHomes, IsPairBelow, IsPairOf, Joined, home_of}
use Rattle.dpl_join.specs.Listing.{Lists}
use Rattle.dpl_join.specs.Pairs.{IsPair}
use Rattle.dpl_shade.specs.declared.shades.Shade.{Shade}
use Rattle.dpl_shade.specs.declared.shades.Shades.{Shades}
use Rattle.dpl_shade.specs.Shading.{AreBoth, AreSound, HandlesBoth, HandlesDealt, IsMore, IsShare, IsSound}
use Rattle.dpl_shade.proofs.ShadingLaws.{both-more, flag-from, flag-here, flag-stays, more-more, more-same}

-- ---- one worker

module _ (join : Joined) (worker workers : ℕ) where
  -- the pairs that count in one of the first n strips, where that is dealt to the worker, are handled
  pub record HandlesTo (n : ℕ) (base t : Shades) : Type 0 where
    pub sound : IsSound join.items t
    pub more : IsMore base t
    pub handles : (p : ℕ × ℕ) → IsPairBelow join n p → home_of join p % workers ≡ worker → HandlesBoth join.items t p

  pub to-none : (t : Shades) → IsSound join.items t → HandlesTo 0 t t
  to-none t sound = record { sound = sound; more = more-same t; handles = λ p h. (let l = h.below in absurd (omega (arith, l))) }

  pub to-more : (n : ℕ) (pairs : List (ℕ × ℕ)) (base old new : Shades) → Lists (IsPairOf join n) pairs → HandlesTo n base old
      → IsSound join.items new → IsMore old new → ((p : ℕ × ℕ) → Contains pairs p → HandlesBoth join.items new p) → HandlesTo (n + 1) base new
  to-more n pairs base old new lists h sound more both = record {
    sound = sound;
    more = more-more base old new h.more more;
    handles = λ p b dealt. let below = b.below in elim (cases_eq (home_of join p) n) [
      | inl e ↦ both p ((lists.all p).1 (record { pair = b.pair; here = e }))
      | inr ne ↦ both-more join.items old new p more (h.handles p (record { pair = b.pair; below = omega (arith, below, ne) }) dealt)
    ];
  }

  -- a strip that is dealt to another
  pub to-past : (n : ℕ) (base t : Shades) → (n % workers ≡ worker → ⊥) → HandlesTo n base t → HandlesTo (n + 1) base t
  to-past n base t other h = record {
    sound = h.sound;
    more = h.more;
    handles = λ p b dealt. let below = b.below in elim (cases_eq (home_of join p) n) [
      | inl e ↦ absurd (other (subst (λ k. k % workers ≡ worker) e dealt))
      | inr ne ↦ h.handles p (record { pair = b.pair; below = omega (arith, below, ne) }) dealt
    ];
  }

  pub to-all : (n : ℕ) (base t : Shades) → HaveHomes join → join.strips ≤ n → HandlesTo n base t → HandlesDealt join worker workers t
  to-all n base t homes all h p pair dealt = let home = homes p pair in h.handles p (record { pair = pair; below = omega (arith, all, home) }) dealt

-- one worker has all strips
pub alone-all : (join : Joined) (rule : ℕ) (t : Shades) → join.rule ≡ rule → HandlesDealt join 0 1 t → (p : ℕ × ℕ) → IsPair rule join.items p → HandlesBoth join.items t p
alone-all join rule t is h p pair = h p (subst (λ r. IsPair r join.items p) (sym is) pair) (mod-one (home_of join p))

-- nothing is found yet, and the same items are dead
pub sound-start : (items : List Item) (known : Shades) (found : List Shade) (dead : List Bool) → found ≡ [] → dead ≡ known.dead.items → IsSound items known
    → AreSound items known.spacing known.overlap found dead
sound-start items known found dead none same h = rw (none, same) (record { sized = h.sized; shades = λ s (k, k_in, is). absurd (omega (arith, k_in)); dead = h.dead })

-- ---- what is put together

-- marks of the first n places, by other marks
pub record AreDarkened (n : ℕ) (other old new : List Bool) : Type 0 where
  pub sized : length new ≡ length old
  pub from : (k : ℕ) → get_or new k false ≡ true → (get_or old k false ≡ true) ⊎ (get_or other k false ≡ true)
  pub kept : (k : ℕ) → get_or old k false ≡ true → get_or new k false ≡ true
  pub marked : (k : ℕ) → k < n → get_or other k false ≡ true → get_or new k false ≡ true

pub darkened-none : (other old : List Bool) → AreDarkened 0 other old old
darkened-none other old = record { sized = refl; from = λ k h. inl h; kept = λ k h. h; marked = λ k l h. absurd (omega (arith, l)) }

-- the next place is marked
pub darkened-here : (n : ℕ) (other base old new : List Bool) → n < length old → get_or other n false ≡ true → new ≡ set old n true → AreDarkened n other base old
    → AreDarkened (n + 1) other base new
darkened-here n other base old new n_in here is h = rw is (record {
  sized = length-set old n true ∙ h.sized;
  from = λ k flag. elim (flag-from old n k flag) [ inl e ↦ inr (subst (λ j. get_or other j false ≡ true) (sym e) here) | inr was ↦ h.from k was ];
  kept = λ k flag. flag-stays old n k (h.kept k flag);
  marked = λ k l flag. elim (cases_eq k n) [
    | inl e ↦ subst (λ j. get_or (set old n true) j false ≡ true) (sym e) (flag-here old n n_in)
    | inr ne ↦ flag-stays old n k (h.marked k (omega (arith, l, ne)) flag)
  ];
})

-- or stays as it is
pub darkened-past : (n : ℕ) (other base old : List Bool) → (get_or other n false ≡ true → ⊥) → AreDarkened n other base old → AreDarkened (n + 1) other base old
darkened-past n other base old none h = record {
  sized = h.sized;
  from = h.from;
  kept = h.kept;
  marked = λ k l flag. elim (cases_eq k n) [
    | inl e ↦ absurd (none (subst (λ j. get_or other j false ≡ true) e flag))
    | inr ne ↦ h.marked k (omega (arith, l, ne)) flag
  ];
}

pub darkened-all : (n : ℕ) (other old new : List Bool) → length other ≤ n → AreDarkened n other old new
    → (k : ℕ) → (get_or new k false ≡ true) ↔ ((get_or old k false ≡ true) ⊎ (get_or other k false ≡ true))
darkened-all n other old new all h k = (
  h.from k,
  λ c. elim c [
    | inl was ↦ h.kept k was
    | inr flag ↦ elim (cases_lt k (length other)) [
      | inl l ↦ h.marked k (omega (arith, l, all)) flag
      | inr m ↦ absurd (let e = get_or_past other k false m in cc)
    ]
  ],
)

pub both-from : (one other : Shades) (found : Vec Shade Global) (dead : Vec Bool Global) → found.items ≡ one.found.items ++ other.found.items
    → length dead.items ≡ length one.dead.items
    → ((n : ℕ) → (get_or dead.items n false ≡ true) ↔ ((get_or one.dead.items n false ≡ true) ⊎ (get_or other.dead.items n false ≡ true)))
    → AreBoth one other (record { spacing = one.spacing; overlap = one.overlap; found = found; dead = dead })
both-from one other found dead is sized flags = record {
  spacing = refl;
  overlap = refl;
  found = λ s. (
    λ c. Contains-append_cases one.found.items other.found.items s (subst (λ xs. Contains xs s) is c),
    λ c. subst (λ xs. Contains xs s) (sym is) (elim c [
      | inl a ↦ Contains-append_left one.found.items other.found.items s a
      | inr b ↦ Contains-append_right one.found.items other.found.items s b
    ]),
  );
  sized = sized;
  dead = flags;
}

pub both-more_one : (one other both : Shades) → AreBoth one other both → IsMore one both
both-more_one one other both h = record { spacing = h.spacing; overlap = h.overlap; found = λ s c. (h.found s).1 (inl c); dead = λ n d. (h.dead n).1 (inl d) }

pub both-more_other : (one other both : Shades) → AreBoth one other both → other.spacing ≡ one.spacing → other.overlap ≡ one.overlap → IsMore other both
both-more_other one other both h spacing overlap = record {
  spacing = h.spacing ∙ sym spacing;
  overlap = h.overlap ∙ sym overlap;
  found = λ s c. (h.found s).1 (inr c);
  dead = λ n d. (h.dead n).1 (inr d);
}

sound-like : (items : List Item) (a b : Spacing) (m n : ℕ) (found : List Shade) (dead : List Bool) → a ≡ b → m ≡ n → AreSound items a m found dead → AreSound items b n found dead
sound-like items a b m n found dead e f h = rw (sym e, sym f) h

pub both-sound : (items : List Item) (one other both : Shades) → AreBoth one other both → other.spacing ≡ one.spacing → other.overlap ≡ one.overlap
    → IsSound items one → IsSound items other → IsSound items both
both-sound items one other both h spacing overlap a b =
    let c = sound-like items other.spacing one.spacing other.overlap one.overlap other.found.items other.dead.items spacing overlap b in
    sound-like items one.spacing both.spacing one.overlap both.overlap both.found.items both.dead.items (sym h.spacing) (sym h.overlap) (record {
      sized = h.sized ∙ a.sized;
      shades = λ s found. elim ((h.found s).0 found) [ inl in_one ↦ a.shades s in_one | inr in_other ↦ c.shades s in_other ];
      dead = λ n n_in flag. elim ((h.dead n).0 flag) [ inl in_one ↦ a.dead n n_in in_one | inr in_other ↦ c.dead n n_in in_other ];
    })

-- ---- all workers

-- the marks of a share are as many as the items
pub share-sized : (join : Joined) (known : Shades) (k workers : ℕ) (t old : Shades) → IsShare join known k workers t → IsSound join.items old
    → length t.dead.items ≡ length old.dead.items
share-sized join known k workers t old share sound = share.sound.sized ∙ sym sound.sized

module _ {E : Type 0} (join : Joined) (known : Shades) (workers : ℕ) where
  -- each worker found its share, where it wasn't out of memory
  abbrev pub AreShares : List (Result Shades E) → Type 0
  AreShares shares = (k : ℕ) (d : Result Shades E) → k < length shares → IfOk (get_or shares k d) (IsShare join known k workers)

  -- the shares of the last workers are put together, those of the first ones are left
  pub record ArePut (left : List (Result Shades E)) (t : Shades) : Type 0 where
    pub few : length left ≤ workers
    pub shares : AreShares left
    pub sound : IsSound join.items t
    pub more : IsMore known t
    pub handles : (p : ℕ × ℕ) → IsPair join.rule join.items p → length left ≤ home_of join p % workers → HandlesBoth join.items t p

  pub put-none : (shares : List (Result Shades E)) → length shares ≡ workers → 1 ≤ workers → IsSound join.items known → AreShares shares → ArePut shares known
  put-none shares len some sound are = record {
    few = omega (arith, len);
    shares = are;
    sound = sound;
    more = more-same known;
    handles = λ p pair l. absurd (let m = mod-lt (home_of join p) {m = workers} (omega (arith, some)) in let no : ⊥ = omega (arith, l, m, len) in no);
  }

  own-share : (left : List (Result Shades E)) (last : Result Shades E) (t : Shades) → last ≡ Ok t → AreShares (left ++ last ∷ []) → IsShare join known (length left) workers t
  own-share left last t ok are = subst (λ r. IfOk r (IsShare join known (length left) workers)) (get_or_at left last [] last (length left) refl ∙ ok)
      (are (length left) last (let e = length_push left last in omega (arith, e)))

  pub last-share : (shares left : List (Result Shades E)) (last : Result Shades E) (t old : Shades) → shares ≡ left ++ last ∷ [] → last ≡ Ok t → ArePut shares old
      → IsShare join known (length left) workers t
  last-share shares left last t old is ok h = own-share left last t ok (subst AreShares is h.shares)

  pub put-more : (shares left : List (Result Shades E)) (last : Result Shades E) (t old new : Shades) → shares ≡ left ++ last ∷ [] → last ≡ Ok t → AreBoth old t new
      → ArePut shares old → ArePut left new
  put-more shares left last t old new is ok both h =
      let size : length shares ≡ length left + 1 = ap length is ∙ length_push left last in
      let few = h.few in
      let share = last-share shares left last t old is ok h in
      let spacing = share.spacing ∙ sym h.more.spacing in
      let overlap = share.overlap ∙ sym h.more.overlap in
      let more_old = both-more_one old t new both in
      record {
        few = omega (arith, size, few);
        shares = λ k d l. subst (λ r. IfOk r (IsShare join known k workers)) (ap (λ xs. get_or xs k d) is ∙ get_or_append_left left (last ∷ []) d k l)
            (h.shares k d (omega (arith, l, size)));
        sound = both-sound join.items old t new both spacing overlap h.sound share.sound;
        more = more-more known old new h.more more_old;
        handles = λ p pair l. elim (cases_eq (home_of join p % workers) (length left)) [
          | inl e ↦ both-more join.items t new p (both-more_other old t new both spacing overlap) (share.handles p pair e)
          | inr ne ↦ both-more join.items old new p more_old (h.handles p pair (omega (arith, l, ne, size)))
        ];
      }

  pub put-all : (left : List (Result Shades E)) (t : Shades) → length left ≡ 0 → ArePut left t → (p : ℕ × ℕ) → IsPair join.rule join.items p → HandlesBoth join.items t p
  put-all left t none h p pair = h.handles p pair (omega (arith, none))
