-- What the check answers, part after part, with everything but the header forgotten. Assumes nothing.
use mathlib.Core.Path.{◌≡◌, refl, sym, ◌∙◌, ap}
use mathlib.Core.Bool.{Bool, true, false, cond}
use mathlib.Core.List.{List}
use Prim.Native.Nat.{ℕ, ◌+◌, ◌*◌}
use Rattle.std.specs.declared.result.Result.{Result}
use Rattle.std.specs.declared.result.Result.TheVariants.{Ok, Err}
use Rattle.whole.proofs.Cases.{by_case}
use Rattle.refusals.specs.declared.Refusal.{Refusal}
use Rattle.refusals.specs.declared.Refusal.TheVariants as refusal
use Rattle.refusals.specs.Answer.{Answer, value, refused, refuse, then}
use Rattle.bits.specs.declared.Cursor.{Cursor}
use Rattle.bits.specs.Bits.{bits}
use Rattle.bits.specs.Reader.{Read}
use Rattle.bits.specs.Fields.{before}
use Rattle.formulas.specs.declared.Header.{Header}
use Rattle.formulas.specs.declared.Instruction.{Instruction}
use Rattle.formulas.specs.Formula.{Formula}
use Rattle.packed.specs.Items.{Form, done, read, ◌>>=◌}
use Rattle.packed.specs.Format.{header, program, results, is_padding, widest}
use Rattle.packed.specs.Meaning.{body, if_padded, formula, checked}
use Rattle.packed.proofs.InTurn.{read_bind}
use Rattle.heading.specs.HeaderAnswers.{Passed}
use Rattle.heading.specs.HeaderAnswers.{header_of}
use Rattle.checking.specs.CheckAnswers.{passed_answer, place, body_checked, body_answer}
use Rattle.heading.specs.HeaderAnswers.{HeaderPassed}
use Rattle.checking.specs.CheckAnswers.{PassedOver, BodyPassed}

module _ (h : Header) where
  abbrev the_program : Form (List Instruction)
  the_program = program h.scale h.instructions h.inputs

  abbrev the_results : Form (List ℕ)
  the_results = results h.outputs (h.inputs + h.instructions)

  -- the places after the instructions and after the outputs, then the padding
  abbrev after_results : List ℕ → Answer Header
  after_results ds = cond (is_padding ds) (value h) (refuse refusal.Padding)

  abbrev after_program : List ℕ → Answer Header
  after_program cs = then (place (read the_results cs)) after_results

  abbrev headed : Answer (Read Formula) → Answer Header
  headed a = then (then a if_padded) (λ f. value f.header)

  abbrev made : List Instruction → List ℕ → Formula
  made is os = record { header = h; program = is; results = os }

  abbrev outs : List Instruction → Form Formula
  outs is = the_results >>= λ os. done (made is os)

  body_in_places : (bs : List ℕ) → body_checked h bs ≡ then (place (read the_program bs)) after_program
  unfolding body
  body_in_places bs = ap headed (read_bind the_program outs bs) ∙ by_program (read the_program bs)
    where
      by_padding : (is : List Instruction) (y : Read (List ℕ)) (t : Bool)
          → then (cond t (value (made is y.got)) (refuse refusal.Padding)) (λ f. value f.header)
          ≡ cond t (value h) (refuse refusal.Padding)
      by_padding is y true = refl
      by_padding is y false = refl

      by_results : (is : List Instruction) (r : Answer (Read (List ℕ)))
          → headed (then r (λ y. value (record { got = made is y.got; left = y.left })))
          ≡ then (place r) after_results
      by_results is (value y) = by_padding is y (is_padding y.left)
      by_results is (refused n) = refl

      by_program : (r : Answer (Read (List Instruction)))
          → headed (then r (λ x. read (outs x.got) x.left)) ≡ then (place r) after_program
      by_program (value x) =
          ap headed (read_bind the_results (λ os. done (made x.got os)) x.left)
          ∙ by_results x.got (read the_results x.left)
      by_program (refused n) = refl

-- ---- the body, as the code goes through it

module _ {s : List ℕ} (h : Header) {c : Cursor} {p : Passed}
    (a : PassedOver s (program h.scale h.instructions h.inputs) (widest * h.instructions) c p) where
  pub program_stops : {r : Refusal} → p ≡ Err r → BodyPassed s h c (Err r)
  program_stops u =
      let e = by_case (passed_answer s) a.answers u in
      record { answers = sym (body_in_places h (before s c) ∙ rw e) }

  module _ {d : Cursor} (u : p ≡ Ok d) where
    module _ {q : Passed}
        (b : PassedOver s (results h.outputs (h.inputs + h.instructions)) (10 * h.outputs) d q) where
      pub results_stop : {r : Refusal} → q ≡ Err r → BodyPassed s h c (Err r)
      results_stop v =
          let e = by_case (passed_answer s) a.answers u in
          let f = by_case (passed_answer s) b.answers v in
          record { answers = sym (body_in_places h (before s c) ∙ rw (e, f)) }

      module _ {e : Cursor} (v : q ≡ Ok e) where
        after_all : {t g : Bool} → g ≡ is_padding (before s e) → g ≡ t
            → cond t (value h) (refuse refusal.Padding) ≡ body_checked h (before s c)
        after_all m k =
            let e = by_case (passed_answer s) a.answers u in
            let f = by_case (passed_answer s) b.answers v in
            sym (body_in_places h (before s c) ∙ rw (e, f, sym m ∙ k))

        pub padding_passes : {g : Bool} → g ≡ is_padding (before s e) → g ≡ true → BodyPassed s h c (Ok tt)
        padding_passes m k = record { answers = after_all m k }

        pub padding_stops : {g : Bool} → g ≡ is_padding (before s e) → g ≡ false
            → BodyPassed s h c (Err refusal.Padding)
        padding_stops m k = record { answers = after_all m k }

-- ---- the whole check

checked_in_turn : (s : List ℕ) → checked s ≡ then (read header (bits s)) (λ x. body_checked x.got x.left)
unfolding checked formula
checked_in_turn s =
    ap (λ a. then (then a if_padded) (λ f. value f.header)) (read_bind header body (bits s))
    ∙ by_header (read header (bits s))
  where
    by_header : (r : Answer (Read Header))
        → then (then (then r (λ x. read (body x.got) x.left)) if_padded) (λ f. value f.header)
        ≡ then r (λ x. body_checked x.got x.left)
    by_header (value x) = refl
    by_header (refused n) = refl

module _ (s : List ℕ) (x : ℕ) {p : Passed} (a : HeaderPassed s x p) where
  pub header_stops : {r : Refusal} → p ≡ Err r → refuse r ≡ checked s
  header_stops u = let b = rw u at a in sym (checked_in_turn s ∙ rw b.is)

  module _ {h : Header} {c : Cursor} (u : p ≡ Ok c) (e : h ≡ header_of x) where
    module _ {q : Result (Unit {0}) Refusal} (d : BodyPassed s h c q) where
      through : body_answer h q ≡ checked s
      through = let b = rw u at a in d.answers ∙ sym (checked_in_turn s ∙ rw (b.is, sym e))

      pub body_stops : {r : Refusal} → q ≡ Err r → refuse r ≡ checked s
      body_stops v = sym (by_case (body_answer h) through v)

      pub body_passes : {f : Unit {0}} → q ≡ Ok f → value h ≡ checked s
      body_passes v = sym (by_case (body_answer h) through v)
