-- What reading all tokens gives.
use Rattle.std.specs.Prelude.{◌≡◌, ℕ, Bool, true, false, ◌&&◌, ◌+◌, ◌<◌, ◌≤◌, List, ◌∷◌, Option, Some, Result, Ok, Err, length, drop}
use Rattle.asm_lang_tokens.specs.Text.{PlacedToken}
use Rattle.asm_lang.specs.Lexemes.{Lexeme, operator, a_zero, lexeme_of, lexemes_of}
use Rattle.sem_words.specs.declared.js_value.JsOp.TheVariants.{Sub}
use Rattle.asm_lang.specs.Trees.{ModuleTree}
use Rattle.asm_lang.specs.Machine.{grammar, no_use_asm, same_class, meets, Step}
use Rattle.asm_lang.specs.Faults.{IsPair}
use Rattle.asm_lang.specs.Heights.{height_limit}
use Rattle.asm_lang.specs.Kinds as kinds
use Rattle.asm_laws_height.specs.Peaks.{Stop, high, run_low}
use Rattle.asm_grammar_nodes.specs.Views.{module_view}
use Rattle.js_tokens.specs.declared.token.Token.{Token}
use Rattle.js_tokens.specs.Views.{placed_token}
use Rattle.asm_grammar.specs.declared.fault.ParseFault.{ParseFault}
use Rattle.asm_grammar.specs.declared.fault.ParseFault.TheVariants as faults
use Rattle.asm_grammar_modules.specs.declared.tall.TallModule.{TallModule}
use Rattle.asm_grammar.specs.declared.parsing.Fed.{Fed}
use Rattle.asm_grammar.specs.declared.parsing.Fed.TheVariants as feds
use Rattle.asm_grammar.specs.Ends.{stopped}
use Rattle.asm_grammar.specs.Parsed.{place_in}

-- what reading within the limit goes on with: after the step s where the token was taken, of the token and those after it
abbrev pub fed_view : Fed → Step → Lexeme → List Lexeme → Result ModuleTree Stop
fed_view feds.On s t ts = run_low height_limit s ts
fed_view feds.Stuck s t ts = stopped grammar (t ∷ ts)
fed_view feds.NoUseAsm s t ts = stopped no_use_asm (t ∷ ts)
fed_view feds.High s t ts = Err (high (t ∷ ts))

-- the result says where reading within the limit ended; `end`: the end of the text
abbrev pub Gives : ℕ → List PlacedToken → Result TallModule ParseFault → Result ModuleTree Stop → Type 0
Gives end ts (Ok m) r = r ≡ Ok (module_view m.tree)
Gives end ts (Err (faults.LiteralForm at)) r = (k : ℕ) × (at ≡ place_in end ts k) × (k + 1 ≤ length (lexemes_of ts)) × (r ≡ stopped grammar (drop (k + 1) (lexemes_of ts))) × IsPair (lexemes_of ts) k
Gives end ts (Err (faults.Grammar at)) r = (k : ℕ) × (at ≡ place_in end ts k) × (k ≤ length (lexemes_of ts)) × (r ≡ stopped grammar (drop k (lexemes_of ts))) × ((j : ℕ) → j + 1 ≡ k → ¬ IsPair (lexemes_of ts) j)
Gives end ts (Err (faults.NoUseAsm at)) r = (k : ℕ) × (at ≡ place_in end ts k) × (k ≤ length (lexemes_of ts)) × (r ≡ stopped no_use_asm (drop k (lexemes_of ts)))
Gives end ts (Err (faults.Height at)) r = (k : ℕ) × (at ≡ place_in end ts k) × (k < length (lexemes_of ts)) × (r ≡ Err (high (drop k (lexemes_of ts))))
Gives end ts (Err faults.Memory) r = Unit {0}

abbrev pub is_negative_zero : Lexeme → Lexeme → Bool
is_negative_zero m z = same_class (operator Sub) m.class && meets a_zero z

-- the fault where the grammar refuses a token after the last one
abbrev pub IsRefusal : Option Token → Token → ParseFault → Type 0
IsRefusal last t (faults.LiteralForm at) = (m : Token) × (last ≡ Some m) × (at ≡ m.at) × (is_negative_zero (lexeme_of (placed_token m)) (lexeme_of (placed_token t)) ≡ true)
IsRefusal last t (faults.Grammar at) = (at ≡ t.at) × ((m : Token) → last ≡ Some m → is_negative_zero (lexeme_of (placed_token m)) (lexeme_of (placed_token t)) ≡ false)
IsRefusal last t _ = ⊥

-- it is this tree, or memory ran out
abbrev pub HasTree : ModuleTree → Result TallModule ParseFault → Type 0
HasTree t (Ok m) = module_view m.tree ≡ t
HasTree t (Err faults.Memory) = Unit {0}
HasTree t (Err _) = ⊥

-- no token completes a node above the limit
abbrev pub IsLow : List Lexeme → Type 0
IsLow xs = kinds.IsLow height_limit xs
