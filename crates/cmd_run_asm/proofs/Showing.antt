-- Equal sessions are seen alike.
use Rattle.std.proofs.Common.{◌≡◌, ℕ, List, ap, sym, ◌∙◌}
use Rattle.std.specs.Prelude.{Some}
use Rattle.session_lang.specs.Observation.{ObservationPlain}
use Rattle.session_lang.specs.Script.{ScriptPlain}
use Rattle.script_lang.specs.Texts.{observation_text}
use Rattle.asm_lang.specs.Modules.{Module}
use Rattle.asm_lang_exec.specs.Session.{asm}
use Rattle.bridge_lang.specs.AsmRuns.{Shows}

pub shows : {m n : Module} {a b : ℕ} {s t : ScriptPlain} {c d : ℕ} (output : List ℕ) (seen : ObservationPlain) → m ≡ n → a ≡ b → s ≡ t → c ≡ d
    → asm m a s c ≡ Some seen → output ≡ observation_text seen → Shows n b t d output
shows {m} {n} {a} {b} {s} {t} {c} {d} output seen same_module same_size same_script same_budget meaning printed = record {
  seen = seen;
  meaning = sym (ap (λ x. asm x a s c) same_module ∙ ap (λ x. asm n x s c) same_size ∙ ap (λ x. asm n b x c) same_script ∙ ap (λ x. asm n b t x) same_budget) ∙ meaning;
  printed = printed;
}
