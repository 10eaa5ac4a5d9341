-- The laws, of what reading within the limit returned.
use Rattle.std.proofs.Common.{◌≡◌, ℕ, ◌+◌, ◌≤◌, List, Result, Ok, Err, sym, ap, subst, ◌∙◌, arith}
use Rattle.sem_words.specs.Lists.{list_items}
use Rattle.asm_lang_tokens.specs.Text.{PlacedToken}
use Rattle.asm_lang.specs.Lexemes.{Lexeme, lexemes_of}
use Rattle.asm_lang.specs.Trees.{ModuleTree}
use Rattle.asm_lang.specs.Grammar.{IsModule}
use Rattle.asm_lang.specs.Machine.{Fault, grammar, no_use_asm, run, at_start, failed}
use Rattle.asm_lang.specs.Modules.{Module, module_of, module_places}
use Rattle.asm_lang.specs.Heights.{module_height, height_limit}
use Rattle.asm_lang.proofs.CompleteModules.{module_read}
use Rattle.asm_lang.proofs.Sound.{found_module}
use Rattle.asm_lang.proofs.First.{first_fault, negative_zero, missing_use}
use Rattle.asm_lang.specs.TreeHeights.{whole_height}
use Rattle.asm_laws_height.specs.Peaks.{run_low}
use Rattle.asm_laws_height.proofs.Within.{start_kept}
use Rattle.asm_laws_height.proofs.Limits.{low_read, low_found}
use Rattle.asm_laws_height.proofs.SeenModules.{refused_low, none_in_refused}
use Rattle.asm_laws_height.proofs.Places.{height_fault}
use Rattle.asm_grammar_nodes.specs.Views as placed
use Rattle.asm_tree.specs.declared.tree.Parsed.{Parsed}
use Rattle.asm_tree.specs.Views as plain
use Rattle.asm_grammar.specs.declared.fault.ParseFault.{ParseFault}
use Rattle.asm_grammar.specs.declared.fault.ParseFault.TheVariants.{LiteralForm, Grammar, NoUseAsm, Height, Memory}
use Rattle.asm_grammar_modules.specs.declared.tall.TallModule.{TallModule}
use Rattle.asm_grammar.specs.Ends.{stopped}
use Rattle.asm_grammar.specs.Gives.{Gives, HasTree, IsLow}
use Rattle.asm_grammar.specs.Parsed.{HasModule, IsFault, IsVerdict}

abbrev Low : ℕ → List PlacedToken → Result TallModule ParseFault → Type 0
Low end ts r = Gives end ts r (run_low height_limit at_start (lexemes_of ts))

is_found : (end : ℕ) (ts : List PlacedToken) (m : TallModule) → Low end ts (Ok m) → IsModule (placed.module_view m.tree) (lexemes_of ts)
is_found end ts m given = (let low = low_found height_limit (lexemes_of ts) at_start (placed.module_view m.tree) (omega arith) given in found_module (lexemes_of ts) (placed.module_view m.tree) low.0)

is_within : (end : ℕ) (ts : List PlacedToken) (m : TallModule) → Low end ts (Ok m) → whole_height (placed.module_view m.tree) ≤ height_limit
is_within end ts m given = (let low = low_found height_limit (lexemes_of ts) at_start (placed.module_view m.tree) (omega arith) given in low.1)

is_only : (end : ℕ) (ts : List PlacedToken) (r : Result TallModule ParseFault) (t : ModuleTree) → Low end ts r → IsModule t (lexemes_of ts) → whole_height t ≤ height_limit → HasTree t r
is_only end ts (Ok m) t given is low = let reads = low_read height_limit (lexemes_of ts) at_start t start_kept (module_read is) low in cc
is_only end ts (Err (LiteralForm at)) t given is low = let reads = low_read height_limit (lexemes_of ts) at_start t start_kept (module_read is) low in let fails = given.3 in absurd cc
is_only end ts (Err (Grammar at)) t given is low = let reads = low_read height_limit (lexemes_of ts) at_start t start_kept (module_read is) low in let fails = given.3 in absurd cc
is_only end ts (Err (NoUseAsm at)) t given is low = let reads = low_read height_limit (lexemes_of ts) at_start t start_kept (module_read is) low in let fails = given.3 in absurd cc
is_only end ts (Err (Height at)) t given is low = let reads = low_read height_limit (lexemes_of ts) at_start t start_kept (module_read is) low in let fails = given.3 in absurd cc
is_only end ts (Err Memory) t given is low = tt

refusal_is : (xs : List Lexeme) (f : Fault) (rest : List Lexeme) → run_low height_limit at_start xs ≡ stopped f rest → run at_start xs ≡ failed f rest
refusal_is xs f rest e = let w = refused_low height_limit xs at_start (record { fault = f; rest = rest }) (omega arith) e in w.0

none_high : (xs : List Lexeme) (f : Fault) (rest : List Lexeme) → run_low height_limit at_start xs ≡ stopped f rest → IsLow xs
none_high xs f rest e j h = none_in_refused height_limit xs (record { fault = f; rest = rest }) e (j + 1) h.here

is_fault : (end : ℕ) (ts : List PlacedToken) (e : ParseFault) → Low end ts (Err e) → IsFault end ts e
is_fault end ts (LiteralForm at) given = (given.0, given.1, (negative_zero (lexemes_of ts) given.0 given.2 (refusal_is (lexemes_of ts) grammar _ given.3) given.4, none_high (lexemes_of ts) grammar _ given.3))
is_fault end ts (Grammar at) given = (given.0, given.1, (first_fault (lexemes_of ts) given.0 given.2 (refusal_is (lexemes_of ts) grammar _ given.3) given.4, none_high (lexemes_of ts) grammar _ given.3))
is_fault end ts (NoUseAsm at) given = (given.0, given.1, (missing_use (lexemes_of ts) given.0 given.2 (refusal_is (lexemes_of ts) no_use_asm _ given.3), none_high (lexemes_of ts) no_use_asm _ given.3))
is_fault end ts (Height at) given = (given.0, given.1, height_fault height_limit (lexemes_of ts) given.0 (omega (arith, given.2)) given.3)
is_fault end ts Memory given = tt

-- ---- what the answer says

no_module : (t : ModuleTree) (e : ParseFault) → HasTree t (Err e) → HasModule t (Err e)
no_module t (LiteralForm at) h = h
no_module t (Grammar at) h = h
no_module t (NoUseAsm at) h = h
no_module t (Height at) h = h
no_module t Memory h = tt

pub verdict_of : (end : ℕ) (ts : List PlacedToken) (e : ParseFault) → Low end ts (Err e) → IsVerdict end ts (Err e)
verdict_of end ts e given = record {
  found = tt;
  only = λ t is low. no_module t e (is_only end ts (Err e) t given is low);
  fault = is_fault end ts e given;
}

pub module_read_is : (end : ℕ) (ts : List PlacedToken) (m : TallModule) (p : Parsed) → Low end ts (Ok m)
    → plain.module_view p.module ≡ module_of (placed.module_view m.tree) → list_items p.places ≡ module_places (placed.module_view m.tree) → IsVerdict end ts (Ok p)
module_read_is end ts m p given this places = record {
  found = record {
    tree = placed.module_view m.tree;
    is_module = is_found end ts m given;
    is_this = this;
    have_places = places;
    within = subst (λ (x : Module). module_height x ≤ height_limit) (sym this) (is_within end ts m given);
  };
  only = λ t is low. let same : placed.module_view m.tree ≡ t = is_only end ts (Ok m) t given is low in (this ∙ ap module_of same, places ∙ ap module_places same);
  fault = tt;
}
