-- What a short text leaves of the module that it says, and that its translation can be written.
use Rattle.std.proofs.Common.{◌≡◌, ℕ, ◌+◌, ◌*◌, ◌^◌, ◌≤◌, true, List, [], ◌∷◌, length, ap, subst, arith}
use Rattle.std.specs.List.{AllByRecursion}
use Rattle.std.proofs.lemmas.List.{length-map, length-append}
use Rattle.wasm_laws_trees.specs.Laws.{IsReadAgain, IsWellNested, LevelsAreKept}
use Rattle.wasm_laws_write.proofs.Modules.{fitting_are_writable}
use Rattle.asm_lang_tokens.specs.Forms.{is_punctuator, is_token}
use Rattle.asm_lang_tokens.specs.Text.{PlacedToken, HasForm, IsJoined, nothing, gap_first, token_first}
use Rattle.asm_lang_tokens.proofs.Readings.{forms_of, joined_of}
use Rattle.asm_lang.specs.Lexemes.{lexeme_of, lexemes_of}
use Rattle.asm_lang.specs.Modules.{Module, module_of, module_places}
use Rattle.asm_lang.specs.Heights.{IsWellFormed}
use Rattle.asm_lang.specs.Texts.{SaysModule}
use Rattle.asm_lang_valid.specs.Rows.{module_count}
use Rattle.asm_lang_valid.proofs.Places.{module_counted}
use Rattle.asm2wasm_lang.specs.Counts.{module_clauses}
use Rattle.asm2wasm_laws_writable.proofs.Counts.Modules.{module_size}
use Rattle.asm2wasm_laws_writable.proofs.Counts.Names.{names_within}
use Rattle.asm2wasm_lang.specs.Short.{IsOfShortText}
use Rattle.asm2wasm_laws_writable.specs.Laws.{ShortTextsAreShort, TranslationIsWritable}
use Rattle.asm2wasm_translation.specs.Modules.{translation}
use Rattle.asm2wasm_laws_writable.proofs.Constants.{PagesAreFew, PagesHold}
use Rattle.asm2wasm_laws_writable.proofs.Shaped.{translation_is_shaped}
use Rattle.asm2wasm_laws_writable.proofs.Numbers.{numbers_fit_in_translations}
use Rattle.asm2wasm_laws_writable.proofs.Sections.{sections_fit_in_translations}

-- ---- tokens

some_byte : (w : List ℕ) → is_token w ≡ true → 1 ≤ length w
unfolding is_punctuator
some_byte [] h = absurd (cc h)
some_byte (b ∷ bs) h = omega arith

few_tokens : {xs : List ℕ} {ts : List PlacedToken} → IsJoined xs ts → AllByRecursion HasForm ts → length ts ≤ length xs
few_tokens nothing a = omega arith
few_tokens (gap_first g {bs = bs} h e j) a = let rest = few_tokens j a in omega (arith, length-append g bs, ap length e, rest)
few_tokens (token_first {bs = bs} {t = t} e j) a =
    let some = some_byte t.text a.0.0 in
    let rest = few_tokens j a.1 in
    omega (arith, length-append t.text bs, ap length e, some, rest)

-- ---- nodes

few_nodes : (m : Module) (places tokens bytes : ℕ) → places + module_clauses m ≤ 2 * tokens → places ≡ module_count m → tokens ≤ bytes → bytes ≤ 16777216 → module_count m + module_clauses m ≤ 2 ^ 25
few_nodes m places tokens bytes size counted few short = omega (arith, size, counted, few, short)

pub short_texts_are_short : ShortTextsAreShort
short_texts_are_short text m accepted short =
    let said = accepted.says.said in
    let tokens : length (lexemes_of said.tokens) ≡ length said.tokens = length-map said.tokens lexeme_of in
    let few = few_tokens (joined_of said.is_reading) (forms_of said.is_reading) in
    let names = names_within text said.tokens said.tree said.is_reading said.is_module in
    let nodes = few_nodes (module_of said.tree) (length (module_places said.tree)) (length (lexemes_of said.tokens)) (length text) (module_size said.is_module) (module_counted said.tree) (omega (arith, tokens, few)) short in
    subst IsOfShortText said.is_this (record { nodes = nodes; names = omega (arith, names, short) })

-- ---- the whole

well_formed : (text : List ℕ) (m : Module) (places : List ℕ) → SaysModule text m places → IsWellFormed m
well_formed text m places says = record {
  tokens = says.said.tokens;
  tree = says.said.tree;
  have_forms = forms_of says.said.is_reading;
  is_module = says.said.is_module;
  is_this = says.said.is_this;
  within = says.within;
}

pub translation_is_writable : IsReadAgain → IsWellNested → LevelsAreKept → PagesAreFew → PagesHold → TranslationIsWritable
translation_is_writable again nested kept few hold text m heap accepted length_of h =
    let formed = well_formed text m accepted.places accepted.says in
    let short = short_texts_are_short text m accepted length_of in
    fitting_are_writable (translation m heap) (translation_is_shaped nested m heap formed) (numbers_fit_in_translations again kept few hold m heap accepted.accepted formed h)
    (sections_fit_in_translations again kept few hold m heap accepted.accepted formed short h)
