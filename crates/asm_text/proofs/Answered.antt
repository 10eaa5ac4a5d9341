-- What reading a text answers, of what its tokens and the parser answered.
use Rattle.std.proofs.Common.{◌≡◌, ℕ, ◌≤◌, List, length, Result, Ok, Err, sym, subst, ◌∙◌, inl, inr}
use Rattle.sem_words.specs.Lists.{list_items}
use Rattle.asm_lang_tokens.specs.Text.{PlacedToken, PlacedFault, Reading, IsReading}
use Rattle.asm_lang_tokens.proofs.Readings.{same_reading}
use Rattle.asm_lang.specs.Lexemes.{lexemes_of}
use Rattle.asm_lang.specs.Grammar.{IsModule}
use Rattle.asm_lang.specs.Trees.{ModuleTree}
use Rattle.asm_lang.specs.Modules.{Module, module_of, module_places}
use Rattle.asm_lang.specs.Heights.{module_height, height_limit, IsWellFormed}
use Rattle.asm_lang.specs.Kinds as kinds
use Rattle.asm_lang.specs.Texts.{IsTextOf, SaysModule, AtToken}
use Rattle.asm_tree.specs.declared.tree.Parsed.{Parsed}
use Rattle.asm_tree.specs.Views.{module_view}
use Rattle.js_tokens.specs.declared.fault.TokenFault.{TokenFault}
use Rattle.js_tokens.specs.declared.fault.TokenFault.TheVariants as token_faults
use Rattle.js_tokens.specs.Views as reading
use Rattle.asm_grammar.specs.declared.fault.ParseFault.{ParseFault}
use Rattle.asm_grammar.specs.declared.fault.ParseFault.TheVariants as parse_faults
use Rattle.asm_grammar.specs.Parsed as parsing
use Rattle.asm_grammar.specs.Parsed.{IsParsed, HasModule, IsVerdict}
use Rattle.asm_text.specs.declared.fault.TextFault.{TextFault}
use Rattle.asm_text.specs.declared.fault.TextFault.TheVariants as faults
use Rattle.asm_text.specs.Faults.{IsFault}
use Rattle.asm_text.specs.Places.{of_reading, of_parsing}
use Rattle.asm_text.specs.Said.{IsAnswer, IsAnswered, IsAgain}

-- ---- from tokens to the module

says : (text : List ℕ) (ts : List PlacedToken) (m : Module) (places : List ℕ) → IsReading text (Ok ts) → IsParsed (lexemes_of ts) m places → SaysModule text m places
says text ts m places reads p =
    record { said = record { tokens = ts; is_reading = reads; tree = p.tree; is_module = p.is_module; is_this = sym p.is_this }; have_places = p.have_places; within = p.within }

same_tokens : (ts us : List PlacedToken) → (let r : Reading = Ok ts in r) ≡ Ok us → ts ≡ us
same_tokens ts us e = cc

-- the tokens of a text that says a module are those that were found
said_by : (text : List ℕ) (ts : List PlacedToken) (m : Module) (said : IsTextOf text m) → IsReading text (Ok ts) → IsModule said.tree (lexemes_of ts)
said_by text ts m said reads = subst (λ (us : List PlacedToken). IsModule said.tree (lexemes_of us)) (same_tokens said.tokens ts (same_reading said.is_reading reads)) said.is_module

said_low : (text : List ℕ) (m : Module) (said : IsTextOf text m) → module_height m ≤ height_limit → module_height (module_of said.tree) ≤ height_limit
said_low text m said low = subst (λ (n : Module). module_height n ≤ height_limit) (sym said.is_this) low

answered : (t : ModuleTree) (m : Module) (p : Parsed) → module_of t ≡ m → (module_view p.module ≡ module_of t) × (list_items p.places ≡ module_places t) → IsAnswer m (module_places t) (Ok p)
answered t m p this h = (h.0 ∙ this, h.1)

no_answer : (t : ModuleTree) (m : Module) (e : ParseFault) → HasModule t (Err e) → IsAnswer m (module_places t) (Err (of_parsing e))
no_answer t m (parse_faults.LiteralForm at) h = h
no_answer t m (parse_faults.Grammar at) h = h
no_answer t m (parse_faults.NoUseAsm at) h = h
no_answer t m (parse_faults.Height at) h = h
no_answer t m parse_faults.Memory h = tt

at_token : (text : List ℕ) (ts : List PlacedToken) (kind : kinds.Kind) (at : ℕ) → IsReading text (Ok ts) → parsing.HasFault (length text) ts kind at → AtToken text kind at
at_token text ts kind at reads is = record { tokens = ts; is_reading = reads; token = is.0; is_fault = is.2; is_there = is.1 }

grammar_fault : (text : List ℕ) (ts : List PlacedToken) (e : ParseFault) → IsReading text (Ok ts) → parsing.IsFault (length text) ts e → IsFault text (of_parsing e)
grammar_fault text ts (parse_faults.LiteralForm at) reads is = inr (at_token text ts kinds.negative_zero at reads is)
grammar_fault text ts (parse_faults.Grammar at) reads is = at_token text ts kinds.grammar at reads is
grammar_fault text ts (parse_faults.NoUseAsm at) reads is = at_token text ts kinds.missing_use at reads is
grammar_fault text ts (parse_faults.Height at) reads is = at_token text ts kinds.height at reads is
grammar_fault text ts parse_faults.Memory reads is = tt

pub module_answered : (text : List ℕ) (ts : List PlacedToken) (p : Parsed) → IsReading text (Ok ts) → IsVerdict (length text) ts (Ok p) → IsAnswered text (Ok p)
module_answered text ts p reads v = record {
  found = says text ts (module_view p.module) (list_items p.places) reads v.found;
  only = λ m said low. answered said.tree m p said.is_this (v.only said.tree (said_by text ts m said reads) (said_low text m said low));
  fault = tt;
}

pub refusal_answered : (text : List ℕ) (ts : List PlacedToken) (e : ParseFault) → IsReading text (Ok ts) → IsVerdict (length text) ts (Err e) → IsAnswered text (Err (of_parsing e))
refusal_answered text ts e reads v = record {
  found = tt;
  only = λ m said low. no_answer said.tree m e (v.only said.tree (said_by text ts m said reads) (said_low text m said low));
  fault = grammar_fault text ts e reads v.fault;
}

-- ---- from the text to its tokens

token_fault : (text : List ℕ) (e : TokenFault) → reading.IsFault text e → IsFault text (of_reading e)
token_fault text (token_faults.NonAscii at) is = is
token_fault text (token_faults.BadToken at) is = is
token_fault text (token_faults.OpenComment at) is = is
token_fault text (token_faults.LiteralForm at) is = inl is
token_fault text token_faults.Memory is = tt

reads_apart : (ts : List PlacedToken) (f : PlacedFault) → (let r : Reading = Ok ts in r) ≡ Err f → ⊥
reads_apart ts f e = cc

-- a text with a fault of a token says no module
no_tokens : (text : List ℕ) (e : TokenFault) (m : Module) (said : IsTextOf text m) → reading.IsFault text e → IsAnswer m (module_places said.tree) (Err (of_reading e))
no_tokens text (token_faults.NonAscii at) m said is = reads_apart said.tokens _ (same_reading said.is_reading is)
no_tokens text (token_faults.BadToken at) m said is = reads_apart said.tokens _ (same_reading said.is_reading is)
no_tokens text (token_faults.OpenComment at) m said is = reads_apart said.tokens _ (same_reading said.is_reading is)
no_tokens text (token_faults.LiteralForm at) m said is = reads_apart said.tokens _ (same_reading said.is_reading is)
no_tokens text token_faults.Memory m said is = tt

pub fault_answered : (text : List ℕ) (e : TokenFault) → reading.IsFault text e → IsAnswered text (Err (of_reading e))
fault_answered text e is = record { found = tt; only = λ m said low. no_tokens text e m said is; fault = token_fault text e is }

-- ---- what was printed

pub again_of : (m : Module) (places : List ℕ) (r : Result Parsed TextFault) → IsAnswer m places r → IsAgain m r
again_of m places (Ok p) h = h.0
again_of m places (Err faults.Memory) h = tt
again_of m places (Err (faults.NonAscii at)) h = h
again_of m places (Err (faults.BadToken at)) h = h
again_of m places (Err (faults.OpenComment at)) h = h
again_of m places (Err (faults.LiteralForm at)) h = h
again_of m places (Err (faults.Grammar at)) h = h
again_of m places (Err (faults.NoUseAsm at)) h = h
again_of m places (Err (faults.Height at)) h = h

pub height_of : (m : Module) → IsWellFormed m → module_height m ≤ height_limit
height_of m h = h.within
