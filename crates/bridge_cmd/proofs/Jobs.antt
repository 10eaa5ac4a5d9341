-- The words and told files have one job, as far as its end goes.
use Rattle.std.proofs.Common.{◌≡◌, ◌≤◌, ℕ, Bool, true, false, List, length, refl, sym, ap, subst, ◌∙◌, inl, inr}
use Rattle.std.specs.Prelude.{◌⊎◌, Option, Some, None, IsSome, Err}
use Rattle.bridge_io.specs.Outside.{Told}
use Rattle.cmd_check_asm.specs.declared.fault.CheckFault.{CheckFault as TextFault}
use Rattle.cmd_check_asm.specs.declared.fault.CheckFault.TheVariants as text_faults
use Rattle.cmd_check_asm.specs.Verdicts as texts
use Rattle.bridge_lang.specs.declared.asm_rows.AsmRow.{AsmRow}
use Rattle.wasm_lang.specs.declared.fault.Row.{Row}
use Rattle.wasm_lang_valid.specs.declared.rule.Rule.{Rule}
use Rattle.wasm_lang_valid.specs.declared.section.Section.{Section}
use Rattle.wasm_lang.specs.Modules.{WasmModule}
use Rattle.wasm_lang.proofs.ReadingLawsOne.{one_module}
use Rattle.wasm_lang_valid.specs.declared.profile.Outside.{Outside}
use Rattle.wasm_lang_valid.specs.Profile.{outside_profile}
use Rattle.wasm_lang_valid.specs.Runnable.{not_runnable}
use Rattle.wasm_lang_valid.specs.Bytes.{IsValidBytes, IsBeyond}
use Rattle.cmd_check_wasm.specs.declared.fault.CheckFault.{CheckFault}
use Rattle.cmd_check_wasm.specs.declared.fault.CheckFault.TheVariants as checks
use Rattle.cmd_check_wasm.specs.Verdicts.{IsRefused}
use Rattle.cmd_check_wasm.proofs.Once.{not_both, one_fault}
use Rattle.cmd_wat2wasm.specs.declared.fault.TextFault.{TextFault as WatFault}
use Rattle.cmd_wat2wasm.specs.declared.fault.TextFault.TheVariants as wat_faults
use Rattle.cmd_wat2wasm.specs.Verdicts as wats
use Rattle.cmd_wat2wasm.proofs.Once.{one_refusal, not_both as said_once}
use Rattle.bridge_lang.specs.WatVerdicts.{says_none, says_invalid}
use Rattle.bridge_lang.specs.WasmRuns.{IsRunnable, IsOutside}
use Rattle.cmd_run_wasm.specs.Modules.{IsNotRun}
use Rattle.wasm_link_lang.specs.declared.rows.Refused.{Refused}
use Rattle.wasm_link_lang.specs.Refusal.{refusal}
use Rattle.cmd_link.specs.declared.fault.JoinFault.{JoinFault}
use Rattle.cmd_link.specs.declared.fault.JoinFault.TheVariants as joins
use Rattle.cmd_link.specs.Joins.{IsNotJoined}
use Rattle.cmd_run_wasm.specs.declared.fault.RunFault.{RunFault}
use Rattle.cmd_run_wasm.specs.declared.fault.RunFault.TheVariants as run_faults
use Rattle.script_read.specs.declared.fault.ScriptFault.{ScriptFault}
use Rattle.script_read.specs.declared.fault.ScriptFault.TheVariants as script_faults
use Rattle.bridge_args.specs.declared.fault.WordsFault.{WordsFault}
use Rattle.bridge_args.specs.declared.fault.WordsFault.TheVariants as words_faults
use Rattle.bridge_lang.specs.declared.status.Status.TheVariants.{Usage}
use Rattle.bridge_args.specs.Answer.{Answers, asked_view}
use Rattle.bridge_lang.specs.declared.making.Making.TheVariants.{CheckWasm}
use Rattle.bridge_lang.specs.Command.{Action, make, link, Running, as_binary, run, on_file, asm_js, web_assembly, wat, begins_with_zero, language_of}
use Rattle.bridge_lang.specs.Words.{asked}
use Rattle.bridge_lang.specs.Answers.{IsAnswered, a_bar, want_of_memory, IsScriptAnswer, an_unfit_line, no_room, MayAnswer, a_refusal, a_read_fault, no_memory}
use Rattle.bridge_lang.specs.Job.{Job, refused, file_limit, Holds, IsFileJob, absent, long, held, read_as, IsBarred, not_accepted, unreadable, invalid, unsaid, not_translated, outside, IsMade, of_text, of_binary, of_wat, IsPlayed, unfit, ran, IsJoined, not_taken, apart, joined, IsModuleJob, barred, made, scripted, paired, IsJob, no_command, commanded, generated}
use Rattle.bridge_lang.specs.Runs.{Runner, text_runner, binary_runner, IsRunner, a_text, a_binary, script_for, Prints}
use Rattle.bridge_lang.specs.Outcome.{EndsAs, IsCutShort, by_a_read, by_want, MayReport}
use Rattle.bridge_lang.specs.Reason.{Reason, not_wat, not_valid, read_fault, missing, too_large}
use Rattle.bridge_lang.specs.Statuses.{status_of}
use Rattle.bridge_cmd.specs.Refused.{reason_of_check, reason_of_text, reason_of_wat, reason_of_run, reason_of_script, reason_of_join, reason_of_words}
use Rattle.bridge_cmd.proofs.Files.{OneEnd, one_file_end}
use Rattle.cmd_check_asm.proofs.Verdicts as laws
use Rattle.asm_lang.specs.Modules.{Module}
use Rattle.cmd_run_asm.specs.Runs as text_runs
use Rattle.cmd_run_wasm.specs.Runs as binary_runs

-- ---- why a module isn't taken

same_module : (bytes : List ℕ) (m n : WasmModule) → IsValidBytes bytes m → IsValidBytes bytes n → n ≡ m
same_module bytes m n x y = one_module bytes n m y.read.spelled x.read.spelled

one_row : (bytes : List ℕ) (r q : Outside) → IsOutside bytes r → IsOutside bytes q → r ≡ q
one_row bytes r q x y =
    let same = same_module bytes x.«module» y.«module» x.taken y.taken in
    let e : Some r ≡ Some q = sym x.meets ∙ sym (ap not_runnable same) ∙ y.meets in
    cc

one_beyond : (bytes : List ℕ) (r q : Outside) → IsBeyond bytes r → IsBeyond bytes q → r ≡ q
one_beyond bytes r q x y =
    let same = same_module bytes x.«module» y.«module» x.taken y.taken in
    let e : Some r ≡ Some q = sym x.meets ∙ sym (ap outside_profile same) ∙ y.meets in
    cc

text_clear : (row : AsmRow) (at : ℕ) → text_faults.Refused row at ≡ text_faults.Memory → ⊥
text_clear row at e = absurd cc

binary_clear : (row : Row) (at : ℕ) → checks.Binary row at ≡ checks.Memory → ⊥
binary_clear row at e = absurd cc

invalid_clear : (rule : Rule) (section : Section) (index instruction : ℕ) → checks.Invalid rule section index instruction ≡ checks.Memory → ⊥
invalid_clear rule section index instruction e = absurd cc

one_bar : (a : Action) (bytes : List ℕ) (r q : Reason) → IsBarred a bytes r → IsBarred a bytes q → status_of r ≡ status_of q
one_bar a bytes r q (not_accepted row at x i) (not_accepted row' at' y j) = ap (λ e. status_of (reason_of_text e)) (laws.one_fault bytes (text_faults.Refused row at) (text_faults.Refused row' at') (i, text_clear row at) (j, text_clear row' at'))
one_bar a bytes r q (not_accepted row at x i) (unreadable row' at' y j) = absurd cc
one_bar a bytes r q (not_accepted row at x i) (invalid rule' section' index' instruction' y j) = absurd cc
one_bar a bytes r q (not_accepted row at x i) (not_translated row' o') = absurd cc
one_bar a bytes r q (not_accepted row at x i) (outside row' o') = absurd cc
one_bar a bytes r q (not_accepted row at x i) (unsaid reason y j) = absurd cc
one_bar a bytes r q (unreadable row at x i) (not_accepted row' at' y j) = absurd cc
one_bar a bytes r q (unreadable row at x i) (unreadable row' at' y j) = ap (λ e. status_of (reason_of_check e)) (one_fault bytes (checks.Binary row at) (checks.Binary row' at') i j (binary_clear row at) (binary_clear row' at'))
one_bar a bytes r q (unreadable row at x i) (invalid rule' section' index' instruction' y j) = ap (λ e. status_of (reason_of_check e)) (one_fault bytes (checks.Binary row at) (checks.Invalid rule' section' index' instruction') i j (binary_clear row at) (invalid_clear rule' section' index' instruction'))
one_bar a bytes r q (unreadable row at x i) (not_translated row' o') = absurd ((binary_clear row at) (not_both bytes o'.«module» (checks.Binary row at) o'.taken i))
one_bar a bytes r q (unreadable row at x i) (outside row' o') = absurd ((binary_clear row at) (not_both bytes o'.«module» (checks.Binary row at) o'.taken i))
one_bar a bytes r q (unreadable row at x i) (unsaid reason y j) = absurd cc
one_bar a bytes r q (invalid rule section index instruction x i) (not_accepted row' at' y j) = absurd cc
one_bar a bytes r q (invalid rule section index instruction x i) (unreadable row' at' y j) = ap (λ e. status_of (reason_of_check e)) (one_fault bytes (checks.Invalid rule section index instruction) (checks.Binary row' at') i j (invalid_clear rule section index instruction) (binary_clear row' at'))
one_bar a bytes r q (invalid rule section index instruction x i) (invalid rule' section' index' instruction' y j) = ap (λ e. status_of (reason_of_check e)) (one_fault bytes (checks.Invalid rule section index instruction) (checks.Invalid rule' section' index' instruction') i j (invalid_clear rule section index instruction) (invalid_clear rule' section' index' instruction'))
one_bar a bytes r q (invalid rule section index instruction x i) (not_translated row' o') = absurd ((invalid_clear rule section index instruction) (not_both bytes o'.«module» (checks.Invalid rule section index instruction) o'.taken i))
one_bar a bytes r q (invalid rule section index instruction x i) (outside row' o') = absurd ((invalid_clear rule section index instruction) (not_both bytes o'.«module» (checks.Invalid rule section index instruction) o'.taken i))
one_bar a bytes r q (invalid rule section index instruction x i) (unsaid reason y j) = absurd cc
one_bar a bytes r q (not_translated row o) (not_accepted row' at' y j) = absurd cc
one_bar a bytes r q (not_translated row o) (unreadable row' at' y j) = absurd ((binary_clear row' at') (not_both bytes o.«module» (checks.Binary row' at') o.taken j))
one_bar a bytes r q (not_translated row o) (invalid rule' section' index' instruction' y j) = absurd ((invalid_clear rule' section' index' instruction') (not_both bytes o.«module» (checks.Invalid rule' section' index' instruction') o.taken j))
one_bar a bytes r q (not_translated row o) (not_translated row' o') = let e = one_beyond bytes row row' o o' in rw e refl
one_bar a bytes r q (not_translated row o) (unsaid reason y j) = absurd cc
one_bar a bytes r q (outside row o) (not_accepted row' at' y j) = absurd cc
one_bar a bytes r q (outside row o) (unreadable row' at' y j) = absurd ((binary_clear row' at') (not_both bytes o.«module» (checks.Binary row' at') o.taken j))
one_bar a bytes r q (outside row o) (invalid rule' section' index' instruction' y j) = absurd ((invalid_clear rule' section' index' instruction') (not_both bytes o.«module» (checks.Invalid rule' section' index' instruction') o.taken j))
one_bar a bytes r q (outside row o) (outside row' o') = let e = one_row bytes row row' o o' in rw e refl
one_bar a bytes r q (outside row o) (unsaid reason y j) = absurd cc
one_bar a bytes r q (unsaid reason x i) (not_accepted row' at' y j) = absurd cc
one_bar a bytes r q (unsaid reason x i) (unreadable row' at' y j) = absurd cc
one_bar a bytes r q (unsaid reason x i) (invalid rule' section' index' instruction' y j) = absurd cc
one_bar a bytes r q (unsaid reason x i) (not_translated row' o') = absurd cc
one_bar a bytes r q (unsaid reason x i) (outside row' o') = absurd cc
one_bar a bytes r q (unsaid reason x i) (unsaid reason' y j) = ap status_of (one_refusal bytes reason reason' i j)

-- ---- a module that isn't taken makes nothing

bar_makes_nothing : (a : Action) (bytes output : List ℕ) (r : Reason) → IsBarred a bytes r → IsMade a bytes output → ⊥
bar_makes_nothing a bytes output r (not_accepted row at x i) (of_text m y j o) = laws.not_faulty bytes m (text_faults.Refused row at) j (i, text_clear row at)
bar_makes_nothing a bytes output r (not_accepted row at x i) (of_binary w y j o) = cc
bar_makes_nothing a bytes output r (not_accepted row at x i) (of_wat w y j o) = cc
bar_makes_nothing a bytes output r (unreadable row at x i) (of_text m y j o) = cc
bar_makes_nothing a bytes output r (unreadable row at x i) (of_binary w y j o) = (binary_clear row at) (not_both bytes w (checks.Binary row at) j i)
bar_makes_nothing a bytes output r (unreadable row at x i) (of_wat w y j o) = cc
bar_makes_nothing a bytes output r (invalid rule section index instruction x i) (of_text m y j o) = cc
bar_makes_nothing a bytes output r (invalid rule section index instruction x i) (of_binary w y j o) =
    (invalid_clear rule section index instruction) (not_both bytes w (checks.Invalid rule section index instruction) j i)
bar_makes_nothing a bytes output r (invalid rule section index instruction x i) (of_wat w y j o) = cc
bar_makes_nothing a bytes output r (unsaid reason x i) (of_text m y j o) = cc
bar_makes_nothing a bytes output r (unsaid reason x i) (of_binary w y j o) = cc
bar_makes_nothing a bytes output r (unsaid reason x i) (of_wat w y j o) = said_once bytes w reason j i
bar_makes_nothing a bytes output r (not_translated row i) (of_text m y j o) = absurd o
bar_makes_nothing a bytes output r (not_translated row i) (of_binary w y j o) =
    let same = same_module bytes w i.«module» j i.taken in
    let f : Some row ≡ None = sym i.meets ∙ ap outside_profile same ∙ o.within in
    cc
bar_makes_nothing a bytes output r (not_translated row i) (of_wat w y j o) = absurd cc
bar_makes_nothing a bytes output r (outside row i) (of_text m y j o) = absurd o
bar_makes_nothing a bytes output r (outside row i) (of_binary w y j o) = absurd o
bar_makes_nothing a bytes output r (outside row i) (of_wat w y j o) = absurd o

-- a run makes nothing but what is seen of it
run_makes_nothing : (running : Running) (script bytes output : List ℕ) (steps : ℕ) → IsMade (run running script steps) bytes output → ⊥
run_makes_nothing running script bytes output steps (of_text m y j o) = absurd o
run_makes_nothing running script bytes output steps (of_binary w y j o) = absurd o
run_makes_nothing running script bytes output steps (of_wat w y j o) = absurd o

bar_runs_nothing : (running : Running) (script bytes : List ℕ) (steps : ℕ) (runner : Runner) (r : Reason)
    → IsBarred (run running script steps) bytes r → IsRunner bytes running runner → ⊥
bar_runs_nothing running script bytes steps runner r (not_accepted row at x j) (a_text m i) = laws.not_faulty bytes m (text_faults.Refused row at) i (j, text_clear row at)
bar_runs_nothing running script bytes steps runner r (not_accepted row at x j) (a_binary m i) = cc
bar_runs_nothing running script bytes steps runner r (unreadable row at x j) (a_text m i) = cc
bar_runs_nothing running script bytes steps runner r (unreadable row at x j) (a_binary m i) = (binary_clear row at) (not_both bytes m (checks.Binary row at) i.taken j)
bar_runs_nothing running script bytes steps runner r (invalid rule section index instruction x j) (a_text m i) = cc
bar_runs_nothing running script bytes steps runner r (invalid rule section index instruction x j) (a_binary m i) = (invalid_clear rule section index instruction) (not_both bytes m (checks.Invalid rule section index instruction) i.taken j)
bar_runs_nothing running script bytes steps runner r (unsaid reason x j) (a_text m i) = cc
bar_runs_nothing running script bytes steps runner r (unsaid reason x j) (a_binary m i) = cc
bar_runs_nothing running script bytes steps runner r (outside row o) (a_binary m i) =
    let same = same_module bytes m o.«module» i.taken o.taken in
    let e : Some row ≡ None = sym o.meets ∙ ap not_runnable same ∙ i.runs in
    cc

-- ---- two modules

link_makes_nothing : (second bytes output : List ℕ) → IsMade (link second) bytes output → ⊥
link_makes_nothing second bytes output (of_text m y j o) = absurd o
link_makes_nothing second bytes output (of_binary w y j o) = absurd o
link_makes_nothing second bytes output (of_wat w y j o) = absurd o

bar_joins_nothing : (second bytes : List ℕ) (w : WasmModule) (r : Reason) → IsBarred (link second) bytes r → IsValidBytes bytes w → ⊥
bar_joins_nothing second bytes w r (not_accepted row at x j) i = cc
bar_joins_nothing second bytes w r (unreadable row at x j) i = (binary_clear row at) (not_both bytes w (checks.Binary row at) i j)
bar_joins_nothing second bytes w r (invalid rule section index instruction x j) i = (invalid_clear rule section index instruction) (not_both bytes w (checks.Invalid rule section index instruction) i j)
bar_joins_nothing second bytes w r (unsaid reason x j) i = cc

bar_is_not_valid : (bytes : List ℕ) (w : WasmModule) (r : Reason) → IsBarred (make CheckWasm) bytes r → IsValidBytes bytes w → ⊥
bar_is_not_valid bytes w r (not_accepted row at x j) i = cc
bar_is_not_valid bytes w r (unreadable row at x j) i = (binary_clear row at) (not_both bytes w (checks.Binary row at) i j)
bar_is_not_valid bytes w r (invalid rule section index instruction x j) i = (invalid_clear rule section index instruction) (not_both bytes w (checks.Invalid rule section index instruction) i j)
bar_is_not_valid bytes w r (unsaid reason x j) i = cc

same_refusal : (first : WasmModule) (bytes : List ℕ) (m n : WasmModule) → IsValidBytes bytes m → IsValidBytes bytes n → refusal (record { first = first; second = m }) ≡ refusal (record { first = first; second = n })
same_refusal first bytes m n x y = ap (λ (s : WasmModule). refusal (record { first = first; second = s })) (sym (same_module bytes m n x y))

not_apart_too : (r : Refused) → Some r ≡ None → ⊥
not_apart_too r e = absurd cc

one_joined_end : (first : WasmModule) (bytes : List ℕ) → OneEnd (IsJoined first bytes)
one_joined_end first bytes j k (not_taken {reason = r} x) (not_taken {reason = q} y) = one_bar (make CheckWasm) bytes r q x y
one_joined_end first bytes j k (not_taken {reason = r} x) (apart m why i e) = absurd (bar_is_not_valid bytes m r x i)
one_joined_end first bytes j k (not_taken {reason = r} x) (joined m i e o) = absurd (bar_is_not_valid bytes m r x i)
one_joined_end first bytes j k (apart m why i e) (not_taken {reason = r} y) = absurd (bar_is_not_valid bytes m r y i)
one_joined_end first bytes j k (apart m why i e) (apart n other i' e') =
    let same : Some why ≡ Some other = sym e ∙ same_refusal first bytes m n i i' ∙ e' in
    let f : why ≡ other = cc in
    ap (λ (x : Refused). status_of (reason_of_join (joins.Apart x))) f
one_joined_end first bytes j k (apart m why i e) (joined n i' e' o) = absurd (not_apart_too why (sym e ∙ same_refusal first bytes m n i i' ∙ e'))
one_joined_end first bytes j k (joined m i e o) (not_taken {reason = r} y) = absurd (bar_is_not_valid bytes m r y i)
one_joined_end first bytes j k (joined m i e o) (apart n why i' e') = absurd (not_apart_too why (sym e' ∙ same_refusal first bytes n m i' i ∙ e))
one_joined_end first bytes j k (joined m i e o) (joined n i' e' o') = refl

-- ---- runs

one_runner : (running : Running) (bytes : List ℕ) (r q : Runner) → IsRunner bytes running r → IsRunner bytes running q → q ≡ r
one_runner running bytes r q (a_text {heap = heap} m i) (a_text n j) = ap (λ x. text_runner x heap) (laws.one_module bytes n m j i)
one_runner running bytes r q (a_binary m i) (a_binary n j) = ap binary_runner (same_module bytes m n i.taken j.taken)

never_both : (r : Runner) (steps : ℕ) (script output : List ℕ) (line : ℕ) → script_for r script ≡ Err line → Prints r script steps output → ⊥
never_both (text_runner m heap) steps script output line x p = let e = sym x ∙ p.said in absurd cc
never_both (binary_runner m) steps script output line x p = let e = sym x ∙ p.said in absurd cc

one_played_end : (r : Runner) (steps : ℕ) (script : List ℕ) → OneEnd (IsPlayed r steps script)
one_played_end r steps script j k (unfit line x) (unfit line' y) =
    let e : Err line ≡ Err line' = sym x ∙ y in
    let f : line ≡ line' = cc in
    rw f refl
one_played_end r steps script j k (unfit line x) (ran {output = output} p) = absurd (never_both r steps script output line x p)
one_played_end r steps script j k (ran {output = output} p) (unfit line x) = absurd (never_both r steps script output line x p)
one_played_end r steps script j k (ran p) (ran q) = refl

-- ---- the whole

one_module_end : (map : Told) (a : Action) (bytes : List ℕ) → OneEnd (IsModuleJob (Some map) a bytes)
one_module_end map a bytes j k (barred {reason = r} x) (barred {reason = q} y) = one_bar a bytes r q x y
one_module_end map a bytes j k (barred {reason = r} x) (made {output = output} y) = absurd (bar_makes_nothing a bytes output r x y)
one_module_end map a bytes j k (barred {reason = r} x) (scripted {running = running} {script = script} {steps = steps} runner i of) =
    absurd (bar_runs_nothing running script bytes steps runner r x i)
one_module_end map a bytes j k (made {output = output} x) (barred {reason = r} y) = absurd (bar_makes_nothing a bytes output r y x)
one_module_end map a bytes j k (made x) (made y) = refl
one_module_end map a bytes j k (made {output = output} x) (scripted {running = running} {script = script} {steps = steps} runner i of) =
    absurd (run_makes_nothing running script bytes output steps x)
one_module_end map a bytes j k (scripted {running = running} {script = script} {steps = steps} runner i of) (made {output = output} y) =
    absurd (run_makes_nothing running script bytes output steps y)
one_module_end map a bytes j k (scripted {running = running} {script = script} {steps = steps} runner i of) (barred {reason = r} y) =
    absurd (bar_runs_nothing running script bytes steps runner r y i)
one_module_end map a bytes j k (barred {reason = r} x) (paired {second = second} w i of) = absurd (bar_joins_nothing second bytes w r x i)
one_module_end map a bytes j k (made {output = output} x) (paired {second = second} w i of) = absurd (link_makes_nothing second bytes output x)
one_module_end map a bytes j k (paired {second = second} w i of) (made {output = output} y) = absurd (link_makes_nothing second bytes output y)
one_module_end map a bytes j k (paired {second = second} w i of) (barred {reason = r} y) = absurd (bar_joins_nothing second bytes w r y i)
one_module_end map a bytes j k (paired {second = second} w i of) (paired v i' of') =
    let same = same_module bytes w v i i' in
    one_file_end map true second (IsJoined w) (one_joined_end w) j k of (subst (λ m. IsFileJob (Some map) true second (IsJoined m) k) same of')
one_module_end map a bytes j k (scripted {running = running} {script = script} {steps = steps} runner i of) (scripted runner' i' of') =
    let same = one_runner running bytes runner runner' i i' in
    one_file_end map true script (IsPlayed runner steps) (one_played_end runner steps) j k of (subst (λ r. IsFileJob (Some map) true script (IsPlayed r steps) k) same of')

-- the words and told files have one job, as far as its end goes
pub one_end : (words : List (List ℕ)) (told : Option Told) → IsSome told → OneEnd (IsJob words told)
one_end words None some j k x y = absurd cc
one_end words (Some map) some j k (no_command e) (no_command e') = refl
one_end words (Some map) some j k (no_command e) (commanded a file n x) = absurd cc
one_end words (Some map) some j k (commanded a file n x) (no_command e) = absurd cc
one_end words (Some map) some j k (no_command e) (generated n named y) = absurd cc
one_end words (Some map) some j k (commanded a file n x) (generated m named y) = absurd cc
one_end words (Some map) some j k (generated n named x) (no_command e) = absurd cc
one_end words (Some map) some j k (generated n named x) (commanded a file m y) = absurd cc
one_end words (Some map) some j k (generated n named x) (generated m named' y) = refl
one_end words (Some map) some j k (commanded a file n x) (commanded b other n' y) =
    let same : b ≡ a = cc in
    let same_file : other ≡ file = cc in
    one_file_end map false file (IsModuleJob (Some map) a) (one_module_end map a) j k x
    (subst (λ f. IsFileJob (Some map) false f (IsModuleJob (Some map) a) k) same_file (subst (λ c. IsFileJob (Some map) false other (IsModuleJob (Some map) c) k) same y))

-- what is reported is the job's refusal, or the end is cut short
pub reported_exactly : (words : List (List ℕ)) (told : Option Told) (reason : Reason) → MayReport words told reason
    → (job : Job) → IsSome told → IsJob words told job → EndsAs job (status_of reason) ⊎ IsCutShort (status_of reason)
reported_exactly words told reason (a_refusal is) job some of = inl (one_end words told some (refused reason) job is of)
reported_exactly words told reason a_read_fault job some of = inr by_a_read
reported_exactly words told reason no_memory job some of = inr by_want

-- ---- what is answered

abbrev pub tells_files : Reason → Bool
tells_files read_fault = true
tells_files (missing b file) = true
tells_files (too_large b file) = true
tells_files _ = false

-- why a module isn't taken doesn't speak of files
pub answered_quietly : (a : Action) (bytes : List ℕ) (r : Reason) → IsAnswered a bytes r → tells_files r ≡ false
answered_quietly a bytes r (a_bar (not_accepted row at x i)) = refl
answered_quietly a bytes r (a_bar (unreadable row at x i)) = refl
answered_quietly a bytes r (a_bar (invalid rule section index instruction x i)) = refl
answered_quietly a bytes r (a_bar (unsaid reason x (says_none row at i))) = refl
answered_quietly a bytes r (a_bar (unsaid reason x (says_invalid m rule section index instruction says i))) = refl
answered_quietly a bytes r (a_bar (not_translated row o)) = refl
answered_quietly a bytes r (a_bar (outside row o)) = refl
answered_quietly a bytes r want_of_memory = refl

pub module_answered : (told : Option Told) (a : Action) (bytes : List ℕ) (r : Reason) → IsAnswered a bytes r → MayAnswer (IsModuleJob told a bytes) r
module_answered told a bytes r (a_bar x) = a_refusal (barred x)
module_answered told a bytes r want_of_memory = no_memory

-- which language is read
pub reads_text : (bytes : List ℕ) → begins_with_zero bytes ≡ false → language_of bytes ≡ asm_js
reads_text bytes is = rw is refl

pub reads_module : (bytes : List ℕ) → begins_with_zero bytes ≡ true → language_of bytes ≡ web_assembly
reads_module bytes is = rw is refl

-- bytes that were checked
pub text_answer : (a : Action) (bytes : List ℕ) (fault : TextFault) → read_as a bytes ≡ asm_js → texts.IsRefusal bytes fault → IsAnswered a bytes (reason_of_text fault)
text_answer a bytes (text_faults.Refused row at) x i = a_bar (not_accepted row at x i)
text_answer a bytes text_faults.Memory x i = want_of_memory

pub check_answer : (a : Action) (bytes : List ℕ) (fault : CheckFault) → read_as a bytes ≡ web_assembly → IsRefused bytes fault → IsAnswered a bytes (reason_of_check fault)
check_answer a bytes (checks.Binary row at) x i = a_bar (unreadable row at x i)
check_answer a bytes (checks.Invalid rule section index instruction) x i = a_bar (invalid rule section index instruction x i)
check_answer a bytes checks.Memory x i = want_of_memory

pub wat_answer : (a : Action) (text : List ℕ) (fault : WatFault) → read_as a text ≡ wat → wats.IsRefused text fault → IsAnswered a text (reason_of_wat fault)
wat_answer a text (wat_faults.Unsaid row at) x i = a_bar (unsaid (not_wat row at) x i)
wat_answer a text (wat_faults.Check (checks.Invalid rule section index instruction)) x i = a_bar (unsaid (not_valid rule section index instruction) x i)
wat_answer a text (wat_faults.Check (checks.Binary row at)) x i = absurd i
wat_answer a text (wat_faults.Check checks.Memory) x i = want_of_memory

pub run_answer : (script bytes : List ℕ) (steps : ℕ) (fault : RunFault) → IsNotRun bytes fault → IsAnswered (run as_binary script steps) bytes (reason_of_run fault)
run_answer script bytes steps (run_faults.Check fault) i = check_answer (run as_binary script steps) bytes fault refl i
run_answer script bytes steps (run_faults.Outside row) i = a_bar (outside row i)

pub text_script_answer : (m : Module) (heap steps : ℕ) (script : List ℕ) (fault : ScriptFault) → text_runs.IsScriptRefusal m heap script fault
    → IsScriptAnswer (text_runner m heap) steps script (reason_of_script fault)
text_script_answer m heap steps script (script_faults.Refused line) i = an_unfit_line (unfit line i)
text_script_answer m heap steps script script_faults.Memory i = no_room

pub binary_script_answer : (m : WasmModule) (steps : ℕ) (script : List ℕ) (fault : ScriptFault) → binary_runs.IsScriptRefusal m script fault
    → IsScriptAnswer (binary_runner m) steps script (reason_of_script fault)
binary_script_answer m steps script (script_faults.Refused line) i = an_unfit_line (unfit line i)
binary_script_answer m steps script script_faults.Memory i = no_room

pub script_quiet : (runner : Runner) (steps : ℕ) (script : List ℕ) (r : Reason) → IsScriptAnswer runner steps script r → tells_files r ≡ false
script_quiet runner steps script r (an_unfit_line (unfit line x)) = refl
script_quiet runner steps script r no_room = refl

pub script_may : (runner : Runner) (steps : ℕ) (script : List ℕ) (r : Reason) → IsScriptAnswer runner steps script r → MayAnswer (IsPlayed runner steps script) r
script_may runner steps script r (an_unfit_line x) = a_refusal x
script_may runner steps script r no_room = no_memory

-- a module of WebAssembly that is run can be run
abbrev RunsAs : List ℕ → Runner → Type 0
RunsAs bytes (text_runner m heap) = Unit {0}
RunsAs bytes (binary_runner m) = IsRunnable bytes m

runs_as : (bytes : List ℕ) (running : Running) (runner : Runner) → IsRunner bytes running runner → RunsAs bytes runner
runs_as bytes running runner (a_text m i) = tt
runs_as bytes running runner (a_binary m i) = i

pub runs_binary : (bytes : List ℕ) (running : Running) (m : WasmModule) → IsRunner bytes running (binary_runner m) → IsRunnable bytes m
runs_binary bytes running m i = runs_as bytes running (binary_runner m) i

-- a reason that doesn't speak of files is none of theirs
pub quiet_read_fault : (r : Reason) → tells_files r ≡ false → r ≡ read_fault → ⊥
quiet_read_fault r quiet is = let e : true ≡ false = sym (ap tells_files is) ∙ quiet in cc

pub quiet_missing : (r : Reason) (b : Bool) (file : List ℕ) → tells_files r ≡ false → r ≡ missing b file → ⊥
quiet_missing r b file quiet is = let e : true ≡ false = sym (ap tells_files is) ∙ quiet in cc

pub quiet_too_large : (r : Reason) (b : Bool) (file : List ℕ) → tells_files r ≡ false → r ≡ too_large b file → ⊥
quiet_too_large r b file quiet is = let e : true ≡ false = sym (ap tells_files is) ∙ quiet in cc

-- what may be answered of a script's bytes may be of its file, and of the module's job
pub of_held : (told : Option Told) (b : Bool) (file bytes : List ℕ) (OfBytes : List ℕ → Job → Type 0) (r : Reason)
    → Holds told file bytes → length bytes ≤ file_limit → MayAnswer (OfBytes bytes) r → MayAnswer (IsFileJob told b file OfBytes) r
of_held told b file bytes OfBytes r h w (a_refusal x) = a_refusal (held bytes h w x)
of_held told b file bytes OfBytes r h w a_read_fault = a_read_fault
of_held told b file bytes OfBytes r h w no_memory = no_memory

pub of_script_file : (told : Option Told) (running : Running) (script bytes : List ℕ) (steps : ℕ) (runner : Runner) (r : Reason) → IsRunner bytes running runner
    → MayAnswer (IsFileJob told true script (IsPlayed runner steps)) r → MayAnswer (IsModuleJob told (run running script steps) bytes) r
of_script_file told running script bytes steps runner r i (a_refusal x) = a_refusal (scripted runner i x)
of_script_file told running script bytes steps runner r i a_read_fault = a_read_fault
of_script_file told running script bytes steps runner r i no_memory = no_memory

pub of_second_file : (told : Option Told) (second bytes : List ℕ) (w : WasmModule) (r : Reason) → IsValidBytes bytes w
    → MayAnswer (IsFileJob told true second (IsJoined w)) r → MayAnswer (IsModuleJob told (link second) bytes) r
of_second_file told second bytes w r i (a_refusal x) = a_refusal (paired w i x)
of_second_file told second bytes w r i a_read_fault = a_read_fault
of_second_file told second bytes w r i no_memory = no_memory

-- why a second module isn't linked
pub join_may : (first : WasmModule) (bytes : List ℕ) (fault : JoinFault) → IsNotJoined first bytes fault → MayAnswer (IsJoined first bytes) (reason_of_join fault)
join_may first bytes (joins.Check (checks.Binary row at)) i = a_refusal (not_taken (unreadable row at refl i))
join_may first bytes (joins.Check (checks.Invalid rule section index instruction)) i = a_refusal (not_taken (invalid rule section index instruction refl i))
join_may first bytes (joins.Check checks.Memory) i = no_memory
join_may first bytes (joins.Apart why) i = a_refusal (apart i.second why i.taken i.meets)

pub join_quiet : (fault : JoinFault) → tells_files (reason_of_join fault) ≡ false
join_quiet (joins.Check (checks.Binary row at)) = refl
join_quiet (joins.Check (checks.Invalid rule section index instruction)) = refl
join_quiet (joins.Check checks.Memory) = refl
join_quiet (joins.Apart why) = refl

pub of_command : (words : List (List ℕ)) (told : Option Told) (a : Action) (file : List ℕ) (r : Reason) → asked words ≡ Some (on_file a file)
    → MayAnswer (IsFileJob told false file (IsModuleJob told a)) r → MayReport words told r
of_command words told a file r n (a_refusal x) = a_refusal (commanded a file n x)
of_command words told a file r n a_read_fault = a_read_fault
of_command words told a file r n no_memory = no_memory

-- words that name no command may be told, and want of memory
pub words_report : (words : List (List ℕ)) (told : Option Told) (fault : WordsFault) → Answers asked_view (asked words) (Err fault) → MayReport words told (reason_of_words fault)
words_report words told words_faults.Usage is = a_refusal (no_command is)
words_report words told words_faults.Memory is = no_memory

-- ---- the usage is told of words alone

abbrev NoUsage : (Job → Type 0) → Type 0
NoUsage Is = (r : Reason) → Is (refused r) → status_of r ≡ Usage → ⊥

bar_usage : (a : Action) (bytes : List ℕ) (r : Reason) → IsBarred a bytes r → status_of r ≡ Usage → ⊥
bar_usage a bytes r (not_accepted row at x i) is = cc
bar_usage a bytes r (unreadable row at x i) is = cc
bar_usage a bytes r (invalid rule section index instruction x i) is = cc
bar_usage a bytes r (not_translated row o) is = cc
bar_usage a bytes r (outside row o) is = cc
bar_usage a bytes r (unsaid reason x (says_none row at i)) is = cc
bar_usage a bytes r (unsaid reason x (says_invalid m rule section index instruction says i)) is = cc

file_usage : (told : Option Told) (b : Bool) (file : List ℕ) (OfBytes : List ℕ → Job → Type 0) → ((bytes : List ℕ) → NoUsage (OfBytes bytes)) → NoUsage (IsFileJob told b file OfBytes)
file_usage told b file OfBytes never r (absent x) is = cc
file_usage told b file OfBytes never r (long x) is = cc
file_usage told b file OfBytes never r (held bytes h w x) is = never bytes r x is

played_usage : (runner : Runner) (steps : ℕ) (script : List ℕ) → NoUsage (IsPlayed runner steps script)
played_usage runner steps script r (unfit line x) is = cc

joined_usage : (first : WasmModule) (bytes : List ℕ) → NoUsage (IsJoined first bytes)
joined_usage first bytes r (not_taken x) is = bar_usage (make CheckWasm) bytes r x is
joined_usage first bytes r (apart m why i e) is = cc

module_usage : (told : Option Told) (a : Action) (bytes : List ℕ) → NoUsage (IsModuleJob told a bytes)
module_usage told a bytes r (barred x) is = bar_usage a bytes r x is
module_usage told a bytes r (paired {second = second} w i x) is = file_usage told true second (IsJoined w) (joined_usage w) r x is
module_usage told a bytes r (scripted {script = script} {steps = steps} runner i x) is = file_usage told true script (IsPlayed runner steps) (played_usage runner steps) r x is

job_usage : (words : List (List ℕ)) (told : Option Told) (r : Reason) → IsJob words told (refused r) → status_of r ≡ Usage → asked words ≡ None
job_usage words told r (no_command e) is = e
job_usage words told r (commanded a file n x) is = absurd (file_usage told false file (IsModuleJob told a) (module_usage told a) r x is)

pub usage_words : (words : List (List ℕ)) (told : Option Told) (reason : Reason) → MayReport words told reason → status_of reason ≡ Usage → asked words ≡ None
usage_words words told reason (a_refusal job) is = job_usage words told reason job is
usage_words words told reason a_read_fault is = absurd cc
usage_words words told reason no_memory is = absurd cc
