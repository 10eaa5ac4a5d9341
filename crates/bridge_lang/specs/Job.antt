-- What the words and the files ask for: the first refusal in the order words, module read, module checked, script or second module
-- read, and checked, two modules linked; or the output.
use Rattle.std.specs.Prelude.{◌≡◌, ◌<◌, ◌≤◌, ℕ, Bool, true, false, List, Option, Some, None, Err, IfSome, IsSomeAnd, length}
use Rattle.bridge_io.specs.Outside.{Told, content_of}
use Rattle.asm_lang.specs.Modules.{Module}
use Rattle.asm_lang.specs.Printing.{canonical_text}
use Rattle.asm_lang_valid.specs.Texts.{IsAcceptedText}
use Rattle.bridge_lang.specs.AsmVerdicts.{counts_line as text_counts_line, IsRefusedText}
use Rattle.bridge_lang.specs.Shortening.{IsShortened}
use Rattle.bridge_lang.specs.declared.asm_rows.AsmRow.{AsmRow}
use Rattle.wasm_lang.specs.Modules.{WasmModule}
use Rattle.wasm_lang.specs.declared.fault.Row.{Row}
use Rattle.wasm_lang.specs.Bytes.{IsFirstFault}
use Rattle.wasm_lang_valid.specs.declared.profile.Outside.{Outside}
use Rattle.wasm_lang_valid.specs.declared.rule.Rule.{Rule}
use Rattle.wasm_lang_valid.specs.declared.section.Section.{Section}
use Rattle.wasm_lang_valid.specs.Bytes.{IsValidBytes, IsInvalidBytes, IsBeyond}
use Rattle.wasm_lang_valid.specs.Profile.{outside_profile}
use Rattle.bridge_lang.specs.Listing.{counts_line, listing}
use Rattle.wat_lang.specs.Printing.{canonical}
use Rattle.bridge_lang.specs.WatVerdicts.{IsValidWat, IsWatRefusal}
use Rattle.bridge_lang.specs.WasmRuns.{IsOutside}
use Rattle.asm2wasm_lang.specs.Allowed.{IsAllowed, IsBounded, IsShortest}
use Rattle.wasm2js_lang.specs.Allowed.{IsAllowed as IsAllowedAsm, IsBounded as IsBoundedAsm, TrapsAreCalls}
use Rattle.wasm_link_lang.specs.declared.rows.Refused.{Refused}
use Rattle.wasm_link_lang.specs.Pairs.{Pair}
use Rattle.wasm_link_lang.specs.Refusal.{refusal}
use Rattle.wasm_link_lang.specs.Allowed.{IsAllowed as IsAllowedFor, IsBounded as IsBoundedFor}
use Rattle.gen_lang.specs.Recipe.{recipe, recipe_heap, summary}
use Rattle.bridge_lang.specs.declared.making.Making.{Making}
use Rattle.bridge_lang.specs.declared.making.Making.TheVariants.{CheckAsm, CheckWasm, WasmToAsm, WasmToWat, WatToWasm, Shorten, Show}
use Rattle.bridge_lang.specs.Command.{Running, as_text, as_binary, Action, make, translate, link, run, on_file, gen, Language, asm_js, web_assembly, wat, language_of}
use Rattle.bridge_lang.specs.Words.{asked}
use Rattle.bridge_lang.specs.Reason.{Reason, faulty_words, not_asm, not_a_binary, not_valid, not_run, not_linked, bad_script, missing, too_large}
use Rattle.bridge_lang.specs.Runs.{Runner, IsRunner, script_for, Prints}

pub data Job : Type 0 where
  refused : Reason → Job
  written : List ℕ → Job

-- ---- files

-- the largest file that is read, in bytes
abbrev pub file_limit : ℕ
file_limit = 16777216

-- where the files are told, there is none of this name
abbrev pub IsAbsent : Option Told → List ℕ → Type 0
IsAbsent told file = IfSome told (λ map. content_of map file ≡ None)

-- where the files are told, these are the file's bytes
abbrev pub Holds : Option Told → List ℕ → List ℕ → Type 0
Holds told file bytes = IfSome told (λ map. content_of map file ≡ Some bytes)

-- where the files are told, the file is longer than the limit
abbrev pub IsTooLong : Option Told → List ℕ → Type 0
IsTooLong told file = IfSome told (λ map. IsSomeAnd (content_of map file) (λ bytes. file_limit < length bytes))

-- a file's job: it isn't there, it is too long, or what its bytes ask for
pub data IsFileJob (told : Option Told) (is_script : Bool) (file : List ℕ) (OfBytes : List ℕ → Job → Type 0) : Job → Type 0 where
  absent : IsAbsent told file → IsFileJob told is_script file OfBytes (refused (missing is_script file))
  long : IsTooLong told file → IsFileJob told is_script file OfBytes (refused (too_large is_script file))
  held : {job : Job} (bytes : List ℕ) → Holds told file bytes → length bytes ≤ file_limit → OfBytes bytes job → IsFileJob told is_script file OfBytes job

-- ---- modules

-- the language in which the module's bytes are read
abbrev pub read_by : Making → List ℕ → Language
read_by CheckAsm bytes = asm_js
read_by CheckWasm bytes = web_assembly
read_by WasmToAsm bytes = web_assembly
read_by WasmToWat bytes = web_assembly
read_by WatToWasm bytes = wat
read_by Shorten bytes = asm_js
read_by Show bytes = language_of bytes

abbrev pub read_as : Action → List ℕ → Language
read_as (make making) bytes = read_by making bytes
read_as (translate heap) bytes = asm_js
read_as (link second) bytes = web_assembly
read_as (run (as_text heap) script steps) bytes = asm_js
read_as (run as_binary script steps) bytes = web_assembly

-- why a command doesn't take its module's bytes
pub data IsBarred : Action → List ℕ → Reason → Type 0 where
  not_accepted : {a : Action} {bytes : List ℕ} (row : AsmRow) (at : ℕ) → read_as a bytes ≡ asm_js → IsRefusedText bytes row at → IsBarred a bytes (not_asm row at)
  unreadable : {a : Action} {bytes : List ℕ} (row : Row) (at : ℕ) → read_as a bytes ≡ web_assembly → IsFirstFault bytes row at → IsBarred a bytes (not_a_binary row at)
  invalid : {a : Action} {bytes : List ℕ} (rule : Rule) (section : Section) (index instruction : ℕ) → read_as a bytes ≡ web_assembly
      → IsInvalidBytes bytes rule section index instruction → IsBarred a bytes (not_valid rule section index instruction)
  unsaid : {a : Action} {bytes : List ℕ} (reason : Reason) → read_as a bytes ≡ wat → IsWatRefusal bytes reason → IsBarred a bytes reason
  not_translated : {bytes : List ℕ} (row : Outside) → IsBeyond bytes row → IsBarred (make WasmToAsm) bytes (not_run row.row row.value)
  outside : {script bytes : List ℕ} {steps : ℕ} (row : Outside) → IsOutside bytes row → IsBarred (run as_binary script steps) bytes (not_run row.row row.value)

-- the shortest spelling of a module of WebAssembly that may be written for this one, with a heap of so many bytes
pub record IsTranslated (m : Module) (heap : ℕ) (output : List ℕ) : Type 0 where
  pub «module» : WasmModule
  pub allowed : IsAllowed m heap «module»
  pub bounded : IsBounded m heap «module»
  pub shortest : IsShortest output «module»

-- the canonical text of a module of asm.js that may be written for this one, which can be translated
pub record IsTranslatedBack (w : WasmModule) (output : List ℕ) : Type 0 where
  pub within : outside_profile w ≡ None
  pub «module» : Module
  pub printed : output ≡ canonical_text «module»
  pub accepted : IsAcceptedText output «module»
  pub allowed : IsAllowedAsm w «module»
  pub traps : TrapsAreCalls w «module»
  pub bounded : IsBoundedAsm w «module»

-- what is made of an accepted module of asm.js
abbrev pub IsMadeOfText : Action → Module → (output : List ℕ) → Type 0
IsMadeOfText (make CheckAsm) m output = output ≡ text_counts_line m
IsMadeOfText (make Show) m output = output ≡ canonical_text m
IsMadeOfText (make Shorten) m output = IsShortened m output
IsMadeOfText (translate heap) m output = IsTranslated m heap output
IsMadeOfText _ m output = ⊥

-- .. and of a valid module of WebAssembly
abbrev pub IsMadeOfBinary : Action → WasmModule → (output : List ℕ) → Type 0
IsMadeOfBinary (make CheckWasm) w output = output ≡ counts_line w
IsMadeOfBinary (make WasmToAsm) w output = IsTranslatedBack w output
IsMadeOfBinary (make WasmToWat) w output = output ≡ canonical w
IsMadeOfBinary (make WatToWasm) w output = IsShortest output w
IsMadeOfBinary (make Show) w output = output ≡ listing w
IsMadeOfBinary _ w output = ⊥

-- what a command without a script makes of its module's bytes
pub data IsMade (a : Action) (bytes output : List ℕ) : Type 0 where
  of_text : (m : Module) → read_as a bytes ≡ asm_js → IsAcceptedText bytes m → IsMadeOfText a m output → IsMade a bytes output
  of_binary : (w : WasmModule) → read_as a bytes ≡ web_assembly → IsValidBytes bytes w → IsMadeOfBinary a w output → IsMade a bytes output
  of_wat : (w : WasmModule) → read_as a bytes ≡ wat → IsValidWat bytes w → IsMadeOfBinary a w output → IsMade a bytes output

-- what a run makes of the script's bytes
pub data IsPlayed (runner : Runner) (steps : ℕ) (script : List ℕ) : Job → Type 0 where
  unfit : (line : ℕ) → script_for runner script ≡ Err line → IsPlayed runner steps script (refused (bad_script line))
  ran : {output : List ℕ} → Prints runner script steps output → IsPlayed runner steps script (written output)

-- ---- two modules

-- the shortest spelling of a module that may be written for the pair
pub record IsLinkedTo (w : Pair) (output : List ℕ) : Type 0 where
  pub «module» : WasmModule
  pub allowed : IsAllowedFor w «module»
  pub bounded : IsBoundedFor w «module»
  pub shortest : IsShortest output «module»

-- what is made of a valid first module and a second's bytes: those are refused as `check-wasm` does it, or the pair is, or the two are linked
pub data IsJoined (first : WasmModule) (bytes : List ℕ) : Job → Type 0 where
  not_taken : {reason : Reason} → IsBarred (make CheckWasm) bytes reason → IsJoined first bytes (refused reason)
  apart : (second : WasmModule) (why : Refused) → IsValidBytes bytes second → refusal (record { first = first; second = second }) ≡ Some why
      → IsJoined first bytes (refused (not_linked why.row why.second why.value))
  joined : {output : List ℕ} (second : WasmModule) → IsValidBytes bytes second → refusal (record { first = first; second = second }) ≡ None
      → IsLinkedTo (record { first = first; second = second }) output → IsJoined first bytes (written output)

-- ---- a text of so many functions

-- the bytes that `asm2wasm` makes of the text and the text that `wasm2js` makes of those, and their lengths
pub record IsSummarized (n : ℕ) (output : List ℕ) : Type 0 where
  pub bytes : List ℕ
  pub back : List ℕ
  pub there : IsMade (translate recipe_heap) (recipe n) bytes
  pub again : IsMade (make WasmToAsm) bytes back
  pub summed : output ≡ summary n (length (recipe n)) (length bytes) (length back)

-- ---- the whole

pub data IsModuleJob (told : Option Told) : Action → List ℕ → Job → Type 0 where
  barred : {a : Action} {bytes : List ℕ} {reason : Reason} → IsBarred a bytes reason → IsModuleJob told a bytes (refused reason)
  made : {a : Action} {bytes output : List ℕ} → IsMade a bytes output → IsModuleJob told a bytes (written output)
  scripted : {running : Running} {script bytes : List ℕ} {steps : ℕ} {job : Job} (runner : Runner) → IsRunner bytes running runner
      → IsFileJob told true script (IsPlayed runner steps) job → IsModuleJob told (run running script steps) bytes job
  paired : {second bytes : List ℕ} {job : Job} (w : WasmModule) → IsValidBytes bytes w
      → IsFileJob told true second (IsJoined w) job → IsModuleJob told (link second) bytes job

pub data IsJob (words : List (List ℕ)) (told : Option Told) : Job → Type 0 where
  no_command : asked words ≡ None → IsJob words told (refused faulty_words)
  commanded : {job : Job} (a : Action) (file : List ℕ) → asked words ≡ Some (on_file a file) → IsFileJob told false file (IsModuleJob told a) job → IsJob words told job
  generated : {output : List ℕ} (n : ℕ) → asked words ≡ Some (gen n) → IsSummarized n output → IsJob words told (written output)
