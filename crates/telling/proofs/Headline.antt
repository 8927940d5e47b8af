-- The first line: room for its end, its parts one behind the other, how long it is. Assumes nothing.
use mathlib.Core.Path.{◌≡◌, ap}
use mathlib.Core.List.{List, [], ◌∷◌, ◌++◌}
use Prim.Native.Nat.{ℕ, ◌+◌, ◌≤◌, ◌<◌}
use native.Mathlib.Omega.{arith}
use lib.ListN.{length, length-append}
use Rattle.std.specs.declared.result.Result.TheVariants.{Ok, Err}
use Rattle.refusals.specs.declared.Refusal.{Refusal}
use Rattle.refusals.specs.Said.{Reply}
use Rattle.refusals.specs.Refusals.{refusal_number}
use Rattle.printing.specs.Decimal.{decimal}
use Rattle.lists.specs.Written.{Wrote}
use Rattle.lists.proofs.Again.{wrote_then, wrote_same, wrote_long}
use Rattle.printing.proofs.Digits.{decimal_short}
use Rattle.rows.specs.Rows.{space}
use Rattle.telling.specs.Program.{refused_word, place_text, refused_text, ok_word, ok_text}
use Rattle.telling.specs.Telling.{headline}

-- a word and a number
told_long : (word : List ℕ) (n : ℕ) → length (word ++ decimal n) ≤ length word + 20
told_long word n = omega (arith, length-append word (decimal n), decimal_short n)

pub ok_room : {o now : List ℕ} {at : ℕ} (n : ℕ) → Wrote (ok_word ++ decimal n) 0 o now at → 50 ≤ length o → at < length now
ok_room n w r = omega (arith, wrote_long w, w.after, told_long ok_word n)

pub wrote_ok : {o o1 now : List ℕ} {at t : ℕ} (n : ℕ) → Wrote (10 ∷ []) at o1 now t → Wrote (ok_word ++ decimal n) 0 o o1 at
    → Wrote (ok_text n) 0 o now t
wrote_ok n u w = wrote_then w u

-- a place
pub place_end : {o now : List ℕ} {at t : ℕ} (k : ℕ) → Wrote (space ∷ decimal k) at o now t → at + 22 ≤ length o → t < length now
place_end k x r = omega (arith, wrote_long x, x.after, decimal_short k)

-- `refused`, a number and a place
pub place_room : {o now : List ℕ} {at : ℕ} (n : ℕ) → Wrote (refused_word ++ decimal n) 0 o now at → 50 ≤ length o → at + 22 ≤ length now
place_room n w r = omega (arith, wrote_long w, w.after, told_long refused_word n)

pub wrote_refused : {o o1 now : List ℕ} {p t : ℕ} (n k : ℕ) (r : Refusal) → Wrote (place_text k) p o1 now t
    → Wrote (refused_word ++ decimal n) 0 o o1 p → n ≡ refusal_number r → Wrote (refused_text (refusal_number r) k) 0 o now t
wrote_refused n k r x w e = wrote_same (ap (λ (m : ℕ). refused_text m k) e) (wrote_then w x)

-- at most 50 bytes
pub headline_short : (r : Reply) → length (headline r) ≤ 50
headline_short (Ok n) =
    omega (arith, length-append (ok_word ++ decimal n) (10 ∷ []), length-append ok_word (decimal n), decimal_short n)
headline_short (Err e) =
    let n = refusal_number e.why in
    omega (
      arith,
      length-append (refused_word ++ decimal n) (place_text e.place),
      told_long refused_word n,
      length-append (decimal e.place) (10 ∷ []),
      decimal_short e.place,
    )

-- the lines of the outputs follow it
pub outputs_room : (r : Reply) {o now : List ℕ} {at : ℕ} → Wrote (headline r) 0 o now at → 2048 ≤ length o
    → at + 1600 ≤ length now
outputs_room r w l = omega (arith, wrote_long w, w.after, headline_short r)
