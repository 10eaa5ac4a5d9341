-- What a file's bytes ask for is one thing, where the files are told.
use Rattle.std.proofs.Common.{◌≡◌, ℕ, ◌<◌, ◌≤◌, List, length, Bool, refl, subst, arith}
use Rattle.std.specs.Prelude.{Option, Some, None, IsSomeAnd}
use Rattle.bridge_io.specs.Outside.{Told, content_of}
use Rattle.bridge_io.specs.declared.reading.GatherFault.{GatherFault}
use Rattle.bridge_io.specs.declared.reading.GatherFault.TheVariants.{Read, Missing, TooLarge, Memory}
use Rattle.bridge_lang.specs.Answers.{MayAnswer, a_refusal, a_read_fault, no_memory}
use Rattle.bridge_lang.specs.Job.{Job, refused, written, file_limit, IsAbsent, Holds, IsTooLong, IsFileJob, absent, long, held}
use Rattle.bridge_lang.specs.Outcome.{EndsAs}
use Rattle.bridge_lang.specs.Statuses.{status_of}
use Rattle.bridge_cmd.specs.Refused.{reason_at}
use Rattle.bridge_lang.specs.declared.status.Status.{Status}
use Rattle.bridge_lang.specs.declared.status.Status.TheVariants.{Done}

pub holds : (told : Option Told) (file text : List ℕ) → ((map : Told) → told ≡ Some map → content_of map file ≡ Some text) → Holds told file text
holds None file text content = tt
holds (Some map) file text content = content map refl

is_absent : (told : Option Told) (file : List ℕ) → ((map : Told) → told ≡ Some map → content_of map file ≡ None) → IsAbsent told file
is_absent None file content = tt
is_absent (Some map) file content = content map refl

long_content : (found : Option (List ℕ)) (text : List ℕ) → found ≡ Some text → file_limit < length text → IsSomeAnd found (λ text. file_limit < length text)
long_content found text is more = rw is more

is_too_long : (told : Option Told) (file : List ℕ)
    → ((map : Told) → told ≡ Some map → (text : List ℕ) × (content_of map file ≡ Some text) × (file_limit < length text))
    → IsTooLong told file
is_too_long None file content = tt
is_too_long (Some map) file content =
    let there = content map refl in
    long_content (content_of map file) there.0 there.1 there.2

long_text : (found : Option (List ℕ)) → IsSomeAnd found (λ text. file_limit < length text) → (text : List ℕ) × (found ≡ Some text) × (file_limit < length text)
long_text None there = absurd there
long_text (Some text) there = (text, refl, there)

-- a text of a told file isn't both longer than the limit and within it
not_both : (map : Told) (file text : List ℕ) → IsTooLong (Some map) file → content_of map file ≡ Some text → length text ≤ file_limit → ⊥
not_both map file text more has within =
    let there = long_text (content_of map file) more in
    let found : content_of map file ≡ Some there.0 = there.1 in
    let same : there.0 ≡ text = cc in
    let longer : file_limit < length text = subst (λ t. file_limit < length t) same there.2 in
    omega arith

not_absent : (map : Told) (file text : List ℕ) → content_of map file ≡ None → content_of map file ≡ Some text → ⊥
not_absent map file text none some = cc

not_absent_long : (map : Told) (file : List ℕ) → content_of map file ≡ None → IsTooLong (Some map) file → ⊥
not_absent_long map file none more =
    let there = long_text (content_of map file) more in
    not_absent map file there.0 none there.1

abbrev pub own_status : Job → Status
own_status (refused reason) = status_of reason
own_status (written output) = Done

-- one end for two jobs of these bytes
abbrev pub OneEnd : (Job → Type 0) → Type 0
OneEnd Is = (j k : Job) → Is j → Is k → EndsAs k (own_status j)

same_bytes : (map : Told) (file xs ys : List ℕ) → content_of map file ≡ Some xs → content_of map file ≡ Some ys → ys ≡ xs
same_bytes map file xs ys e f = cc

-- where the files are told, a file's job has one end, if that of its bytes has
pub one_file_end : (map : Told) (b : Bool) (file : List ℕ) (OfBytes : List ℕ → Job → Type 0) → ((bytes : List ℕ) → OneEnd (OfBytes bytes))
    → OneEnd (IsFileJob (Some map) b file OfBytes)
one_file_end map b file OfBytes ends j k (absent x) (absent y) = refl
one_file_end map b file OfBytes ends j k (absent x) (long l) = absurd (not_absent_long map file x l)
one_file_end map b file OfBytes ends j k (absent x) (held bytes h w of) = absurd (not_absent map file bytes x h)
one_file_end map b file OfBytes ends j k (long l) (absent x) = absurd (not_absent_long map file x l)
one_file_end map b file OfBytes ends j k (long l) (long m) = refl
one_file_end map b file OfBytes ends j k (long l) (held bytes h w of) = absurd (not_both map file bytes l h w)
one_file_end map b file OfBytes ends j k (held bytes h w of) (absent x) = absurd (not_absent map file bytes x h)
one_file_end map b file OfBytes ends j k (held bytes h w of) (long l) = absurd (not_both map file bytes l h w)
one_file_end map b file OfBytes ends j k (held bytes h w of) (held bytes' h' w' of') =
    ends bytes j k of (subst (λ x. OfBytes x k) (same_bytes map file bytes bytes' h h') of')

-- why a file wasn't gathered may be answered
pub not_gathered : (told : Option Told) (b : Bool) (file : List ℕ) (OfBytes : List ℕ → Job → Type 0) (fault : GatherFault)
    → ((map : Told) → told ≡ Some map → fault ≡ Missing → content_of map file ≡ None)
    → ((map : Told) → told ≡ Some map → fault ≡ TooLarge → (text : List ℕ) × (content_of map file ≡ Some text) × (file_limit < length text))
    → MayAnswer (IsFileJob told b file OfBytes) (reason_at fault b file)
not_gathered told b file OfBytes Read x l = a_read_fault
not_gathered told b file OfBytes Missing x l = a_refusal (absent (is_absent told file (λ map e. x map e refl)))
not_gathered told b file OfBytes TooLarge x l = a_refusal (long (is_too_long told file (λ map e. l map e refl)))
not_gathered told b file OfBytes Memory x l = no_memory
