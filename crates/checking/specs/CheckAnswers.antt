-- What each case of the check's answers stands for, over the bytes that were read.
use Rattle.std.specs.Prelude.{◌≡◌, List, ℕ, ◌+◌, ◌≤◌}
use Rattle.std.specs.declared.result.Result.{Result}
use Rattle.std.specs.declared.result.Result.TheVariants.{Ok, Err}
use Rattle.refusals.specs.declared.Refusal.{Refusal}
use Rattle.refusals.specs.Answer.{Answer, value, refused, refuse, then}
use Rattle.refusals.specs.Places.{says_bare}
use Rattle.bits.specs.declared.Cursor.{Cursor}
use Rattle.bits.specs.Reader.{Read}
use Rattle.bits.specs.Fields.{before}
use Rattle.formulas.specs.declared.Header.{Header}
use Rattle.packed.specs.Items.{Form, read}
use Rattle.packed.specs.Meaning.{body, if_padded}
use Rattle.heading.specs.HeaderAnswers.{Passed}

-- several were read, and only the place after them is kept
abbrev pub passed_answer : List ℕ → Passed → Answer (List ℕ)
passed_answer s (Ok c) = value (before s c)
passed_answer s (Err r) = refuse r

-- F, m, l and n, or the refusal
abbrev pub Checked : Type 0
Checked = Result Header Refusal

-- "Check .. answers F, m, l and n, or the refusal."
abbrev pub check_answer : Checked → Answer Header
check_answer = says_bare

-- what was read is forgotten, and the bits that are left are kept
abbrev pub place : {A : Type 0} → Answer (Read A) → Answer (List ℕ)
place (value x) = value x.left
place (refused n) = refused n

abbrev pub PassedBy : ℕ → Cursor → Passed → Type 0
PassedBy w c (Ok d) = d.at ≤ c.at + w
PassedBy w c (Err r) = Unit {0}

-- a form was passed, within w bits
pub record PassedOver {A : Type 0} (s : List ℕ) (f : Form A) (w : ℕ) (c : Cursor) (r : Passed) : Type 0 where
  pub answers : passed_answer s r ≡ place (read f (before s c))
  pub past : PassedBy w c r

-- what follows a header, with everything but the header forgotten
abbrev pub body_checked : Header → List ℕ → Answer Header
body_checked h bs = then (then (read (body h) bs) if_padded) (λ f. value f.header)

abbrev pub body_answer : Header → Result (Unit {0}) Refusal → Answer Header
body_answer h (Ok u) = value h
body_answer h (Err r) = refuse r

pub record BodyPassed (s : List ℕ) (h : Header) (c : Cursor) (r : Result (Unit {0}) Refusal) : Type 0 where
  pub answers : body_answer h r ≡ body_checked h (before s c)
