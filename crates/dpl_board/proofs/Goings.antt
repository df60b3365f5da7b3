-- Where one more event leads.
use Rattle.std.proofs.Common.{◌≡◌, ℕ, ◌<◌, ◌≤◌, ◌+◌, List, [], ◌∷◌, ◌++◌, length, append-nil, inl, inr, sym, refl, ap, ◌∙◌, arith}
use Rattle.std.proofs.lemmas.Bool.{cases_eq}
use Rattle.std.specs.Prelude.{Option, Some, None}
use Rattle.dpl_stars.specs.declared.joined.Joined.{Joined}
use Rattle.dpl_stars.specs.Sums.{Sums}
use Rattle.dpl_board.specs.declared.entry.Entry.{Entry}
use Rattle.dpl_board.specs.declared.events.Event.{Event}
use Rattle.dpl_board.specs.declared.events.Event.TheVariants.{Take, Post}
use Rattle.dpl_board.specs.Sheets.{Sheet, AreWorkers, IsPosted, edges_at, entry, poster_in}
use Rattle.dpl_board.specs.Boards.{Board, IsPost, Stands}
use Rattle.dpl_board.specs.Cores.{Goes, HasPosts, firsts, posts_of, takes_of, within}
use Rattle.dpl_board.proofs.Posters.{poster-first, poster-new}
use Rattle.dpl_board.proofs.Firsts.{firsts-known, firsts-new, within-more, within-past}

takes-append : (es fs : List Event) → takes_of (es ++ fs) ≡ takes_of es ++ takes_of fs
takes-append [] fs = refl
takes-append (Take w t ∷ es) fs = ap (λ xs. entry w t ∷ xs) (takes-append es fs)
takes-append (Post w t ∷ es) fs = takes-append es fs

posts-append : (es fs : List Event) → posts_of (es ++ fs) ≡ posts_of es ++ posts_of fs
posts-append [] fs = refl
posts-append (Take w t ∷ es) fs = posts-append es fs
posts-append (Post w t ∷ es) fs = ap (λ xs. entry w t ∷ xs) (posts-append es fs)

module _ (sheet : Sheet) (es : List Entry) (e : Entry) (old : Board) (has : HasPosts sheet es old) where
  -- a post of a tile that isn't there
  pub posts-past : length sheet ≤ e.tile → HasPosts sheet (es ++ e ∷ []) old
  posts-past past = record { history = has.history ∙ sym (ap firsts (within-past (length sheet) e es past)); stands = has.stands }

  -- a post of a tile that is posted
  pub posts-known : (w : ℕ) → e.tile < length sheet → poster_in e.tile old.history ≡ Some w → HasPosts sheet (es ++ e ∷ []) old
  posts-known w below is = record {
    history = has.history ∙ sym (ap firsts (within-more (length sheet) e es below) ∙ firsts-known e w (within (length sheet) es) (ap (poster_in e.tile) (sym has.history) ∙ is));
    stands = has.stands;
  }

  -- a post of a tile that isn't posted
  pub posts-new : (sum : Joined) (new : Board) → e.tile < length sheet → poster_in e.tile old.history ≡ None → IsPost old e sum new
      → Sums (edges_at sheet e.tile) sum → HasPosts sheet (es ++ e ∷ []) new
  posts-new sum new below none is sums = record {
    history = is.history ∙ (ap (λ xs. xs ++ e ∷ []) has.history ∙ sym (ap firsts (within-more (length sheet) e es below)
        ∙ firsts-new e (within (length sheet) es) (ap (poster_in e.tile) (sym has.history) ∙ none)));
    stands = is.stands sheet has.stands sums;
  }

pub goes-take : (sheet : Sheet) (event : Event) (w t : ℕ) (old new : List (Option ℕ)) (b : Board) → event ≡ Take w t → length old ≡ length sheet
    → ((entries : List Entry) → AreWorkers (length old) entries old → AreWorkers (length old) (entries ++ entry w t ∷ []) new) → Goes sheet event old b new b
goes-take sheet event w t old new b is len more = λ events core. rw is record {
  takers = rw (takes-append events (Take w t ∷ []), ← len) (more (takes_of events) (rw len core.takers));
  posts = rw (posts-append events (Take w t ∷ []), append-nil (posts_of events)) core.posts;
}

pub goes-post : (sheet : Sheet) (event : Event) (w t : ℕ) (taken : List (Option ℕ)) (old new : Board) → event ≡ Post w t
    → ((entries : List Entry) → HasPosts sheet entries old → HasPosts sheet (entries ++ entry w t ∷ []) new) → Goes sheet event taken old taken new
goes-post sheet event w t taken old new is more = λ events core. rw is record {
  takers = rw (takes-append events (Post w t ∷ []), append-nil (takes_of events)) core.takers;
  posts = rw (posts-append events (Post w t ∷ [])) (more (posts_of events) core.posts);
}

-- the board stands for the sheet, and the first so many tiles are posted
pub record HasFirst (sheet : Sheet) (n : ℕ) (b : Board) : Type 0 where
  pub stands : Stands sheet b
  pub posted : (s : ℕ) → s < n → IsPosted s b.history

pub first-more : (sheet : Sheet) (n w : ℕ) (sum : Joined) (old new : Board) → HasFirst sheet n old → (poster_in n old.history ≡ None)
    × IsPost old (entry w n) sum new → Sums (edges_at sheet n) sum → HasFirst sheet (n + 1) new
first-more sheet n w sum old new has (none, is) sums = record {
  stands = is.stands sheet has.stands sums;
  posted = λ s l. rw is.history (elim (cases_eq n s) [
    | inl same ↦ rw (← same) (w, poster-new old.history (entry w n) none)
    | inr other ↦ (let (by, at) = has.posted s (omega (arith, l, other)) in (by, poster-first s by old.history (entry w n ∷ []) at))
  ]);
}
