-- What one token does within the limit on the height.
use Rattle.std.proofs.Common.{◌≡◌, ℕ, ◌<◌, ◌≤◌, Bool, true, false, List, [], ◌∷◌, inl, inr, sym, ap, subst, ◌∙◌, arith}
use Rattle.std.proofs.lemmas.Bool.{cases_lt}
use Rattle.asm_lang.specs.Lexemes.{Lexeme}
use Rattle.asm_lang.specs.Machine.{grammar, no_use_asm, refuses, Step, stuck, advance}
use Rattle.asm_lang.specs.Heights.{height_limit}
use Rattle.asm_laws_height.specs.Peaks.{run_low, step_peak}
use Rattle.asm_grammar_nodes.specs.Heights.{counted}
use Rattle.asm_grammar_modules.specs.declared.reading.Reading.{Reading}
use Rattle.asm_grammar_modules.specs.declared.reading.ModuleFed.{ModuleFed}
use Rattle.asm_grammar_modules.specs.Readings.{reading_view, module_fed_view}
use Rattle.asm_grammar.specs.Ends.{stopped}
use Rattle.asm_grammar.proofs.Low.{stops_high, on_low, high_low, refused_low}

pub fed_on : (s : Step) (r : Reading) (t : Lexeme) (ts : List Lexeme) (h : ℕ) → reading_view r ≡ advance s t → h ≡ counted (step_peak (reading_view r)) → h ≤ 1000 → run_low height_limit (reading_view r) ts ≡ run_low height_limit s (t ∷ ts)
fed_on s r t ts h e is le = sym (on_low height_limit s (reading_view r) t ts (sym e) (omega arith))

pub fed_high : (s : Step) (r : Reading) (t : Lexeme) (ts : List Lexeme) (h : ℕ) → reading_view r ≡ advance s t → h ≡ counted (step_peak (reading_view r)) → 1000 < h → stops_high (t ∷ ts) ≡ run_low height_limit s (t ∷ ts)
fed_high s r t ts h e is lt = sym (high_low height_limit s (reading_view r) t ts (sym e) (omega arith))

pub fed_stuck : (s : Step) (t : Lexeme) (ts : List Lexeme) → stuck t ≡ advance s t → stopped grammar (t ∷ ts) ≡ run_low height_limit s (t ∷ ts)
fed_stuck s t ts e = sym (refused_low height_limit s grammar t ts (sym e))

pub fed_no_use : (s : Step) (t : Lexeme) (ts : List Lexeme) → refuses no_use_asm (t ∷ []) ≡ advance s t → stopped no_use_asm (t ∷ ts) ≡ run_low height_limit s (t ∷ ts)
fed_no_use s t ts e = sym (refused_low height_limit s no_use_asm t ts (sym e))

-- what the token does, as the grammar sees it
pub fed_step : (f g : ModuleFed) (r : Reading) (s : Step) (u t : Lexeme) → f ≡ g → u ≡ t → module_fed_view f r u ≡ advance s u → module_fed_view g r t ≡ advance s t
fed_step f g r s u t fg ut h = ap (λ (m : ModuleFed). module_fed_view m r t) (sym fg) ∙ subst (λ (x : Lexeme). module_fed_view f r x ≡ advance s x) ut h

pub not_over : (b : Bool) (n limit : ℕ) → (limit < n → b ≡ true) → b ≡ false → n ≤ limit
not_over b n limit h e = elim (cases_lt limit n) [ inl lt ↦ (let is : b ≡ true = h lt in absurd cc) | inr le ↦ le ]
