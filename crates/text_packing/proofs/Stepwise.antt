-- What packing a text answers, test by test. Assumes nothing.
use mathlib.Core.Path.{◌≡◌, refl, sym, ◌∙◌, ap}
use mathlib.Core.List.{List}
use Prim.Native.Nat.{ℕ}
use lib.IntN.{ℤ, nat_abs}
use lib.ListN.{length}
use Rattle.lists.specs.Over.{over}
use Rattle.std.specs.declared.result.Result.TheVariants.{Err}
use Rattle.refusals.specs.Places.{because}
use Rattle.refusals.specs.declared.Refusal.{Refusal}
use Rattle.refusals.specs.Refusals.{refusal_number}
use Rattle.refusals.specs.Answer.{value, refused, Answer, then}
use Rattle.refusals.specs.Places.{elsewhere}
use Rattle.refusals.specs.Places as places
use Rattle.packing.specs.PackAnswers.{packed_said, packed_front}
use Rattle.expressions.specs.Texts.{Parsed, parse, open_at_once}
use Rattle.expressions.specs.Compiled.{compiled}
use Rattle.text_packing.specs.TextPacking.{scale_and_inputs, parsed_answer, instructions_packed, text_into, text_said, text_front, PacksText}

module _ (room : ℕ) (F m : ℤ) (s : List ℕ) where
  pub into_untested : {n : ℕ} → scale_and_inputs F m ≡ refused n → text_into room F m s ≡ places.refused_at n 0
  unfolding text_into
  into_untested e =
      ap
      (λ a. then (elsewhere a)
      (λ u. then (parsed_answer (parse (nat_abs m) open_at_once s))
      (λ t. elsewhere (instructions_packed room F m (compiled (nat_abs F) t (nat_abs m))))))
      e

  pub into_parsed : {p : Parsed} → scale_and_inputs F m ≡ value tt → parse (nat_abs m) open_at_once s ≡ p
      → text_into room F m s ≡ then (parsed_answer p) (λ t. elsewhere (instructions_packed room F m (compiled (nat_abs F) t (nat_abs m))))
  unfolding text_into
  into_parsed e f =
      ap
      (λ a. then (elsewhere a)
      (λ u. then (parsed_answer (parse (nat_abs m) open_at_once s))
      (λ t. elsewhere (instructions_packed room F m (compiled (nat_abs F) t (nat_abs m))))))
      e
      ∙ ap (λ q. then (parsed_answer q) (λ t. elsewhere (instructions_packed room F m (compiled (nat_abs F) t (nat_abs m))))) f

pub said_elsewhere : (a : Answer (List ℕ)) → text_said (elsewhere a) ≡ packed_said a
said_elsewhere (value s) = refl
said_elsewhere (refused n) = refl

pub front_elsewhere : (a : Answer (List ℕ)) → text_front (elsewhere a) ≡ packed_front a
front_elsewhere (value s) = refl
front_elsewhere (refused n) = refl

-- a refusal, and the buffer as it was
pub text_refuses : {F m : ℤ} {s old : List ℕ} {r : Refusal} {k : ℕ} → text_into (length old) F m s ≡ places.refused_at (refusal_number r) k
    → PacksText F m s old old (Err (because r k))
text_refuses {old = old} e = record { says = sym (ap text_said e); writes = sym (ap (λ a. over (text_front a) old) e) }
