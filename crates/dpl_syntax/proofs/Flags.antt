-- The flags of an element, and what stands behind them.
use Rattle.std.proofs.Common.{◌≡◌, ◌∙◌, ◌++◌, ◌∷◌, [], ℕ, List, Option, Result, Ok, Err, refl, sym, subst, ap}
use Rattle.dpl_spec_format.specs.Kinds as kinds
use Rattle.dpl_spec_format.specs.Faults.{Fault}
use Rattle.dpl_spec_format.specs.Records.{Record}
use Rattle.dpl_spec_format.specs.Tree.{Body, body_of}
use Rattle.dpl_syntax.specs.Reading as reading
use Rattle.dpl_syntax.specs.Reading.{◌>>=◌, Answers, Slots, body_at, body_behind_flags, flags_end, own_items_of, pick, take_if}
use Rattle.dpl_syntax.specs.declared.fault.SyntaxFault.{SyntaxFault}

module _ (kind : ℕ) where
  abbrev body_in : Slots × ℕ → Result (Body × ℕ) Fault
  body_in found = Ok (body_of kind (pick found.0), found.1)

  abbrev with_slot : ℕ → Option Record → Slots × ℕ → Result (Slots × ℕ) Fault
  with_slot flag o others = Ok (((flag, o) ∷ []) ++ others.0, others.1)

  abbrev slot_of : ℕ → Option Record × ℕ → Result (Slots × ℕ) Fault
  slot_of flag o = Ok ((flag, o.0) ∷ [], o.1)

  abbrev behind : (ℕ → Result (Slots × ℕ) Fault) → Slots × ℕ → Result (Slots × ℕ) Fault
  behind own first = own first.1 >>= λ others. Ok (first.0 ++ others.0, others.1)

  -- no body is made of flags
  made_of_own : (o p : Option Record) (r : Result (Slots × ℕ) Fault)
      → (((r >>= with_slot kinds.plex p) >>= with_slot kinds.elflags o) >>= body_in) ≡ (r >>= body_in)
  made_of_own o p (Ok x) = refl
  made_of_own o p (Err f) = refl

  behind_plex : (o : Option Record) (r : Result (Option Record × ℕ) Fault) (own : ℕ → Result (Slots × ℕ) Fault)
      → ((((r >>= slot_of kinds.plex) >>= behind own) >>= with_slot kinds.elflags o) >>= body_in)
      ≡ ((r >>= λ p. Ok p.1) >>= λ at. own at >>= body_in)
  behind_plex o (Ok p) own = made_of_own o p.0 (own p.1)
  behind_plex o (Err f) own = refl

  behind_both : (r : Result (Option Record × ℕ) Fault) (plex : ℕ → Result (Option Record × ℕ) Fault) (own : ℕ → Result (Slots × ℕ) Fault)
      → (((r >>= slot_of kinds.elflags) >>= behind (λ at. (plex at >>= slot_of kinds.plex) >>= behind own)) >>= body_in)
      ≡ ((r >>= λ o. plex o.1 >>= λ p. Ok p.1) >>= λ at. own at >>= body_in)
  behind_both (Ok o) plex own = behind_plex o.0 (plex o.1) own
  behind_both (Err f) plex own = refl

  module _ (bytes : List ℕ) where
    -- a body is read by reading its flags, and then what is behind them
    body_by_flags : (at : ℕ) → body_at bytes kind at ≡ (flags_end bytes at >>= body_behind_flags bytes kind)
    unfolding reading.items_at
    body_by_flags at = behind_both (take_if bytes kinds.elflags at) (take_if bytes kinds.plex) (reading.items_at bytes (own_items_of kind))

    pub answers_body : {X : Type 0} (view : X → Body × ℕ) (result : Result X SyntaxFault) (at next : ℕ)
        → flags_end bytes at ≡ Ok next → Answers view result (body_behind_flags bytes kind next) → Answers view result (body_at bytes kind at)
    answers_body view result at next is answers =
        subst (Answers view result) (sym (body_by_flags at ∙ ap (λ (r : Result ℕ Fault). r >>= body_behind_flags bytes kind) is)) answers

    pub no_flags : (at : ℕ) (f : Fault) → flags_end bytes at ≡ Err f → body_at bytes kind at ≡ Err f
    no_flags at f e = body_by_flags at ∙ ap (λ (r : Result ℕ Fault). r >>= body_behind_flags bytes kind) e
