-- What reading within the limit gives for all tokens, where it stops and where it goes on.
use Rattle.std.proofs.Common.{◌≡◌, ℕ, ◌+◌, true, List, [], ◌∷◌, ◌++◌, Option, Some, None, Result, Ok, Err, length, drop, refl, sym, ap, subst, ◌∙◌, append_assoc, arith, length-drop}
use Rattle.std.proofs.lemmas.List.{append-nil, drop_all}
use Rattle.asm_lang_tokens.specs.Text.{PlacedToken}
use Rattle.asm_lang.specs.Lexemes.{Lexeme, lexeme_of, lexemes_of}
use Rattle.asm_lang.specs.Trees.{ModuleTree}
use Rattle.asm_lang.specs.Machine.{grammar, no_use_asm, Step, stops, at_start}
use Rattle.asm_lang.specs.Faults.{IsPair}
use Rattle.asm_lang.specs.Heights.{height_limit}
use Rattle.asm_laws_height.specs.Peaks.{Stop, stop_of, run_low}
use Rattle.asm_grammar_nodes.specs.Views.{module_view}
use Rattle.js_tokens.specs.declared.token.Token.{Token}
use Rattle.js_tokens.specs.Views.{placed_token}
use Rattle.asm_grammar.specs.declared.fault.ParseFault.{ParseFault}
use Rattle.asm_grammar.specs.declared.fault.ParseFault.TheVariants.{LiteralForm, Grammar, NoUseAsm, Height, Memory}
use Rattle.asm_grammar_modules.specs.declared.tall.TallModule.{TallModule}
use Rattle.asm_grammar.specs.declared.parsing.Fed.{Fed}
use Rattle.asm_grammar.specs.declared.parsing.Fed.TheVariants as feds
use Rattle.asm_grammar.specs.declared.parsing.Parser.{Parser}
use Rattle.asm_grammar_modules.specs.Ends.{finished_view}
use Rattle.asm_grammar.specs.Ends.{stopped}
use Rattle.asm_grammar_modules.specs.Readings.{reading_view}
use Rattle.asm_grammar.specs.Gives.{fed_view, Gives, IsRefusal, is_negative_zero}
use Rattle.asm_grammar.specs.Parsed.{HasRead, IsLast}
use Rattle.asm_grammar.proofs.Low.{stops_high}
use Rattle.asm_grammar.proofs.Pairs.{place_there, place_behind, dropped, dropped_more, lexemes-length, within, pair_at, shifted, no_pair}

abbrev low : Step → List Lexeme → Result ModuleTree Stop
low s xs = run_low height_limit s xs

-- where reading of all of the tokens ends
abbrev pub All : List PlacedToken → Result ModuleTree Stop
All ts = run_low height_limit at_start (lexemes_of ts)

-- what was read of a token is this, whatever comes after it
abbrev pub Feeds : Fed → Parser → Step → Token → Type 0
Feeds f p n t = (us : List Lexeme) → fed_view f n (lexeme_of (placed_token t)) us ≡ low (reading_view p.reading) (lexeme_of (placed_token t) ∷ us)

fed_as : (f g : Fed) (p : Parser) (n : Step) (t : Token) → f ≡ g → Feeds f p n t → Feeds g p n t
fed_as f g p n t is h = subst (λ (x : Fed). Feeds x p n t) is h

-- ---- a token is read, and reading goes on

pub nothing_read : (p : Parser) → reading_view p.reading ≡ at_start → p.last ≡ None → HasRead p []
nothing_read p start none = record { comes_to = λ us. ap (λ (s : Step). low s (lexemes_of us)) start; ends_in = subst (λ (o : Option Token). IsLast o []) (sym none) refl }

pub goes_on : (f : Fed) (p n : Parser) (t : Token) (ts : List PlacedToken) → f ≡ feds.On → Feeds f p (reading_view n.reading) t → n.last ≡ Some t → HasRead p ts
    → HasRead n (ts ++ placed_token t ∷ [])
goes_on f p n t ts is fed last h = record {
  comes_to = λ us. fed_as f feds.On p (reading_view n.reading) t is fed (lexemes_of us) ∙ h.comes_to (placed_token t ∷ us) ∙ ap All (sym (append_assoc ts (placed_token t ∷ []) us));
  ends_in = subst (λ (o : Option Token). IsLast o (ts ++ placed_token t ∷ [])) (sym last) (ts, refl);
}

-- ---- a token stops reading

abbrev pub Refused : ℕ → List PlacedToken → ParseFault → Type 0
Refused end ts e = Gives end ts (Err e) (All ts)

stops_at : (f g : Fed) (p : Parser) (n : Step) (t : Token) (ts us : List PlacedToken) → f ≡ g → Feeds f p n t → HasRead p ts
    → All (ts ++ placed_token t ∷ us) ≡ fed_view g n (lexeme_of (placed_token t)) (lexemes_of us)
stops_at f g p n t ts us is fed h = sym (h.comes_to (placed_token t ∷ us)) ∙ sym (fed_as f g p n t is fed (lexemes_of us))

-- the tokens from this one on are those behind the ones before it
behind : (stop : List Lexeme → Result ModuleTree Stop) (ts us : List PlacedToken) (t : PlacedToken) → All (ts ++ t ∷ us) ≡ stop (lexeme_of t ∷ lexemes_of us)
    → All (ts ++ t ∷ us) ≡ stop (drop (length ts) (lexemes_of (ts ++ t ∷ us)))
behind stop ts us t e = e ∙ ap stop (sym (dropped ts (t ∷ us)))

paired : (end : ℕ) (vs us : List PlacedToken) (m t : PlacedToken) → is_negative_zero (lexeme_of m) (lexeme_of t) ≡ true → All (vs ++ m ∷ t ∷ us) ≡ stopped grammar (lexeme_of t ∷ lexemes_of us)
    → Refused end (vs ++ m ∷ t ∷ us) (LiteralForm m.at)
paired end vs us m t pair e =
    (length vs, sym (place_there end vs (t ∷ us) m), omega (arith, within vs (t ∷ us) m), e ∙ ap (stopped grammar) (sym (dropped_more vs (t ∷ us) m)), pair_at vs us m t pair)

refused_by : (end : ℕ) (last : Option Token) (ts us : List PlacedToken) (t : Token) (e : ParseFault) → IsRefusal last t e → IsLast last ts
    → All (ts ++ placed_token t ∷ us) ≡ stopped grammar (lexeme_of (placed_token t) ∷ lexemes_of us) → Refused end (ts ++ placed_token t ∷ us) e
refused_by end last ts us t (LiteralForm at) is before q =
    let there : IsLast (Some is.0) ts = subst (λ (o : Option Token). IsLast o ts) is.1 before in
    let same : ts ++ placed_token t ∷ us ≡ there.0 ++ placed_token is.0 ∷ placed_token t ∷ us = shifted ts there.0 us (placed_token is.0) (placed_token t) there.1 in
    let gives : Refused end (there.0 ++ placed_token is.0 ∷ placed_token t ∷ us) (LiteralForm is.0.at) = paired end there.0 us (placed_token is.0) (placed_token t) is.3 (ap All (sym same) ∙ q) in
    subst (λ (l : List PlacedToken). Refused end l (LiteralForm at)) (sym same) (subst (λ (n : ℕ). Refused end (there.0 ++ placed_token is.0 ∷ placed_token t ∷ us) (LiteralForm n)) (sym is.2) gives)
refused_by end last ts us t (Grammar at) is before q =
    (length ts, is.0 ∙ sym (place_there end ts us (placed_token t)), omega (arith, within ts us (placed_token t)), behind (stopped grammar) ts us (placed_token t) q, no_pair last ts us t before is.1)
refused_by end last ts us t (NoUseAsm at) is before q = absurd is
refused_by end last ts us t (Height at) is before q = absurd is
refused_by end last ts us t Memory is before q = absurd is

pub refused : (f : Fed) (p : Parser) (n : Step) (t : Token) (e : ParseFault) (end : ℕ) (ts us : List PlacedToken) → f ≡ feds.Stuck → Feeds f p n t → IsRefusal p.last t e → HasRead p ts
    → Refused end (ts ++ placed_token t ∷ us) e
refused f p n t e end ts us is fed refusal h = refused_by end p.last ts us t e refusal h.ends_in (stops_at f feds.Stuck p n t ts us is fed h)

pub lacks_use : (f : Fed) (p : Parser) (n : Step) (t : Token) (end : ℕ) (ts us : List PlacedToken) → f ≡ feds.NoUseAsm → Feeds f p n t → HasRead p ts
    → Refused end (ts ++ placed_token t ∷ us) (NoUseAsm t.at)
lacks_use f p n t end ts us is fed h =
    (length ts, sym (place_there end ts us (placed_token t)), omega (arith, within ts us (placed_token t)), behind (stopped no_use_asm) ts us (placed_token t) (stops_at f feds.NoUseAsm p n t ts us is fed h))

pub too_high : (f : Fed) (p : Parser) (n : Step) (t : Token) (end : ℕ) (ts us : List PlacedToken) → f ≡ feds.High → Feeds f p n t → HasRead p ts
    → Refused end (ts ++ placed_token t ∷ us) (Height t.at)
too_high f p n t end ts us is fed h =
    (length ts, sym (place_there end ts us (placed_token t)), within ts us (placed_token t), behind stops_high ts us (placed_token t) (stops_at f feds.High p n t ts us is fed h))

-- ---- the end of input

at_end : (p : Parser) (ts : List PlacedToken) → HasRead p ts → All ts ≡ stop_of (stops (reading_view p.reading))
at_end p ts h = ap All (sym (append-nil ts)) ∙ sym (h.comes_to [])

pub found_at_end : (p : Parser) (ts : List PlacedToken) (o : Option TallModule) (m : TallModule) → HasRead p ts → finished_view o ≡ stops (reading_view p.reading) → o ≡ Some m
    → All ts ≡ Ok (module_view m.tree)
found_at_end p ts o m h fin is = at_end p ts h ∙ ap stop_of (sym fin ∙ ap finished_view is)

none_at_end : (xs : List Lexeme) (n : ℕ) → length xs ≡ n → (j : ℕ) → j + 1 ≡ n → ¬ IsPair xs j
none_at_end xs n len j e p = absurd (omega (arith, ap length p.there, length-drop j xs))

pub refused_at_end : (p : Parser) (ts : List PlacedToken) (o : Option TallModule) (end : ℕ) → HasRead p ts → finished_view o ≡ stops (reading_view p.reading) → o ≡ None
    → Refused end ts (Grammar end)
refused_at_end p ts o end h fin is =
    let none : drop (length ts) (lexemes_of ts) ≡ [] = drop_all (length ts) (lexemes_of ts) (omega (arith, lexemes-length ts)) in
    (length ts, sym (place_behind end ts), omega (arith, lexemes-length ts), at_end p ts h ∙ ap stop_of (sym fin ∙ ap finished_view is) ∙ ap (stopped grammar) (sym none), none_at_end (lexemes_of ts) (length ts) (lexemes-length ts))
