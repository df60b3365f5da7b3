-- What is made of what is read.
use Rattle.std.proofs.Common.{◌≡◌, ◌∙◌, ◌<◌, ◌≤◌, ap, sym, refl, subst, inl, true, false, List, [], ◌∷◌, ℕ, Option, Some, None, length, arith, zero, suc}
use Rattle.std.specs.Prelude.{IfSome}
use Rattle.std.specs.FinMap as map
use Rattle.dpl_spec_split.specs.Squares.{uniform}
use Rattle.dpl_host.specs.Outside.{Outside, file_of, with_file}
use Rattle.dpl_host.proofs.Files.{file_put}
use Rattle.dpl_words.specs.Meaning.{AsksDemo, AsksSplit, DemoValues, SplitValues}
use Rattle.clap.specs.Walk.{Text}
use Rattle.dpl_run.specs.Outcome.{Outcome, Shows, is_answered, says}
use Rattle.dpl_run.specs.Program.{IsInput, IsMade}
use Rattle.dpl_decide.specs.Deciding.{Decision, IsDecision, Refuses, Decides}
use Rattle.dpl_run.specs.Split.{IsSplit, IsSplitOf, plan_of, refusal}
use Rattle.dpl_run.specs.Demo.{IsDemo, demo_marked, demo_plan}
use Rattle.dpl_demo.specs.Demo.{demo_file}
use Rattle.dpl_answer.specs.Flat.{Paints, Clashes}
use Rattle.dpl_texts.specs.Texts.{usage_line}
use Rattle.dpl_run.specs.declared.status.Status.TheVariants.{Usage}
use Rattle.dpl_cert.specs.declared.name.Name.TheVariants.{TooLarge}

-- an outside with nothing, and one with one file
abbrev pub nothing : Outside
nothing = record { files = map.empty; said = [] }

abbrev only : Text → List ℕ → Outside
only name bytes = with_file name bytes nothing

-- bytes that were read, whether the outside tells or not
pub seen : (told : Option Outside) (name : Text) (bytes : List ℕ) → IfSome told (λ o. file_of o name ≡ Some bytes) → length bytes ≤ 268435456 → IsInput told name (Some bytes)
seen None name bytes h small = (only name bytes, tt, file_put nothing name bytes, small)
seen (Some o) name bytes h small = (o, refl, h, small)

-- a list of n zeros
pub zeros : ℕ → List ℕ
zeros zero = []
zeros (suc n) = 0 ∷ zeros n

pub length-zeros : (n : ℕ) → length (zeros n) ≡ n
unfolding zeros
length-zeros zero = refl
length-zeros (suc n) = ap suc (length-zeros n)

-- a file that is too large, whether the outside tells or not
pub too_large_seen : (told : Option Outside) (name : Text) → IfSome told (λ o. (file : List ℕ) × (file_of o name ≡ Some file) × (268435456 < length file)) → IsInput told name None
too_large_seen None name h =
    let many = zeros 268435457 in
    let long : 268435456 < length many = omega (arith, length-zeros 268435457) in
    (only name many, tt, (many, file_put nothing name many, long))
too_large_seen (Some o) name h = (o, refl, h)

pub plan_answered : (v : SplitValues) (d : Decision) → is_answered (plan_of v d).status ≡ true
plan_answered v (Refuses name at) = refl
plan_answered v (Decides copied (Paints p)) = refl
plan_answered v (Decides copied (Clashes x)) = refl

of_file : (v : SplitValues) (file : Option (List ℕ)) (bytes : List ℕ) (x : Outcome) → file ≡ Some bytes → IsSplit v bytes x → IsSplitOf v file x
of_file v file bytes x is h = subst (λ (f : Option (List ℕ)). IsSplitOf v f x) (sym is) h

pub split_made : (told : Option Outside) (v : SplitValues) (bytes : List ℕ) (x : Outcome) → IsInput told v.input (Some bytes)
    → IsSplit v bytes x → IsMade (Some (AsksSplit v)) told x
split_made told v bytes x h is =
    (h.0, h.1, of_file v _ bytes x h.2 is, ap (λ (y : Outcome). is_answered y.status) is.2 ∙ plan_answered v is.0)

pub split_refused : (told : Option Outside) (v : SplitValues) (x : Outcome) → IsInput told v.input None → x ≡ refusal v TooLarge 268435456 → IsMade (Some (AsksSplit v)) told x
split_refused told v x h is =
    let (file, there, large) = h.2 in
    (h.0, h.1, of_file v _ file x there (Refuses TooLarge 268435456, inl (large, refl), is), ap (λ (y : Outcome). is_answered y.status) is)

-- an outside that shows
shown : (told : Option Outside) → (o : Outside) × Shows told o
shown None = (nothing, tt)
shown (Some o) = (o, refl)

pub usage_made : (told : Option Outside) (x : Outcome) → x ≡ says Usage usage_line → IsMade None told x
usage_made told x is = let s = shown told in (s.0, s.1, is, ap (λ (y : Outcome). is_answered y.status) is)

-- ---- a made-up layout

demo_answered : (d : Decision) → is_answered (demo_plan d).status ≡ true
demo_answered (Refuses name at) = refl
demo_answered (Decides copied (Paints p)) = refl
demo_answered (Decides copied (Clashes x)) = refl

pub demo_made : (told : Option Outside) (v : DemoValues) (x : Outcome) → IsDemo v x → IsMade (Some (AsksDemo v)) told x
demo_made told v x is = let s = shown told in (s.0, s.1, is, ap (λ (y : Outcome). is_answered y.status) is.2 ∙ demo_answered is.0)

-- the made-up file was decided
pub demo_decided : (v : DemoValues) (bytes : List ℕ) (d : Decision) (x : Outcome) → bytes ≡ demo_file v.seed v.rows
    → IsDecision false demo_marked (uniform 30) 10 bytes d → x ≡ demo_plan d → IsDemo v x
demo_decided v bytes d x made decision is = (d, subst (λ (bs : List ℕ). IsDecision false demo_marked (uniform 30) 10 bs d) made decision, is)
