-- A module that is refused is refused by one rule at one place, and a valid one isn't refused.
use Rattle.std.proofs.Common.{◌≡◌, inl, inr, ℕ, zero, suc, ◌+◌, ◌-◌, ◌<◌, ◌≤◌, List, [], ◌∷◌, ◌++◌, get_or, take, drop, Option, Some, None, refl, sym, ap, ◌∙◌, subst, arith}
use Rattle.std.specs.Prelude.{slice_get}
use Rattle.std.proofs.lemmas.List.{take-append-drop}
use Rattle.std.proofs.lemmas.Bool.{cases_order}
use Rattle.wasm_lang.specs.Instructions.{Instruction}
use Rattle.wasm_lang.specs.Modules.{FunctionBody, WasmModule}
use Rattle.wasm_lang_valid.specs.declared.rule.Rule.{Rule}
use Rattle.wasm_lang_valid.specs.declared.rule.Rule.TheVariants.{Nesting, NoType, NoFunction, NoTable, NoMemory, NoGlobal, NoLocal, NoLabel, OtherType, MissingOperand, OperandsLeft, Alignment, ConstantGlobal, Initializer, Size, SecondMemory, SecondTable, RepeatedName, StartType, LabelsDiffer, IfWithoutElse, TwoResults}
use Rattle.wasm_lang_valid.specs.declared.section.Section.{Section}
use Rattle.wasm_lang_valid.specs.declared.section.Section.TheVariants.{Types, Imports, Functions, Tables, Memories, Globals, Exports, Start, Elements, Code, Data}
use Rattle.wasm_lang_valid.specs.Typing.{Context, IsValid}
use Rattle.wasm_lang_valid.specs.Rules.{number, IsRule}
use Rattle.wasm_lang_valid.specs.Refusal.{BeginsValid, Refuses}
use Rattle.wasm_lang_valid.specs.Validity.{id, body_context, IsFine, BreaksAt, IsValidBody, BodyRefuses, IsValidModule, RefusesModule}

-- the rules in the order of their numbers
abbrev pub rules : List Rule
rules = Nesting ∷ NoType ∷ NoFunction ∷ NoTable ∷ NoMemory ∷ NoGlobal ∷ NoLocal ∷ NoLabel ∷ OtherType ∷ MissingOperand ∷ OperandsLeft ∷ Alignment ∷ ConstantGlobal ∷ Initializer ∷ Size ∷ SecondMemory ∷ SecondTable ∷ RepeatedName ∷ StartType ∷ LabelsDiffer ∷ IfWithoutElse ∷ TwoResults ∷ []

pub numbered : (r : Rule) → slice_get rules (number r) ≡ Some r
numbered Nesting = refl
numbered NoType = refl
numbered NoFunction = refl
numbered NoTable = refl
numbered NoMemory = refl
numbered NoGlobal = refl
numbered NoLocal = refl
numbered NoLabel = refl
numbered OtherType = refl
numbered MissingOperand = refl
numbered OperandsLeft = refl
numbered Alignment = refl
numbered ConstantGlobal = refl
numbered Initializer = refl
numbered Size = refl
numbered SecondMemory = refl
numbered SecondTable = refl
numbered RepeatedName = refl
numbered StartType = refl
numbered LabelsDiffer = refl
numbered IfWithoutElse = refl
numbered TwoResults = refl

some_same : {A : Type 0} (x y : A) → Some x ≡ Some y → x ≡ y
some_same x y e = cc

pub same_number : (r s : Rule) → number r ≡ number s → r ≡ s
same_number r s e = some_same r s (sym (numbered r) ∙ ap (slice_get rules) e ∙ numbered s)

-- the sections in the order of their ids
abbrev in_order : List Section
in_order = Types ∷ Imports ∷ Functions ∷ Tables ∷ Memories ∷ Globals ∷ Exports ∷ Start ∷ Elements ∷ Code ∷ Data ∷ []

pub by_id : (s : Section) → get_or in_order (id s - 1) Types ≡ s
by_id Types = refl
by_id Imports = refl
by_id Functions = refl
by_id Tables = refl
by_id Memories = refl
by_id Globals = refl
by_id Exports = refl
by_id Start = refl
by_id Elements = refl
by_id Code = refl
by_id Data = refl

pub same_id : (s t : Section) → id s ≡ id t → s ≡ t
same_id s t e = sym (by_id s) ∙ ap (λ n. get_or in_order (n - 1) Types) e ∙ by_id t

-- equal, where neither is below the other
neither : (a b : ℕ) → (a < b → ⊥) → (b < a → ⊥) → a ≡ b
neither a b not_less not_more = elim (cases_order a b) [ inl e ↦ e | inr o ↦ absurd (elim o [ inl lt ↦ not_less lt | inr gt ↦ not_more gt ]) ]

-- bodies

one_rule : (base : Context) (start : List Instruction) (i : Instruction) (r s : Rule) → IsRule base start i r → IsRule base start i s → r ≡ s
one_rule base start i r s p q = same_number r s (neither (number r) (number s) (λ lt. q.least r lt p.breaks) (λ gt. p.least s gt q.breaks))

shorter : {A : Type 0} (xs : List A) (n m : ℕ) → n ≤ m → (more : List A) × (take m xs ≡ take n xs ++ more)
shorter xs zero m le = (take m xs, refl)
shorter xs (suc n) zero le = absurd (omega (arith, le))
shorter [] (suc n) (suc m) le = ([], refl)
shorter (x ∷ xs) (suc n) (suc m) le =
    let a = shorter xs n m (omega (arith, le)) in
    (a.0, ap (λ l. x ∷ l) a.1)

append_on : {A : Type 0} (xs ys zs : List A) → (xs ++ ys) ++ zs ≡ xs ++ (ys ++ zs)
append_on [] ys zs = refl
append_on (x ∷ xs) ys zs = ap (λ l. x ∷ l) (append_on xs ys zs)

begins_shorter : (base : Context) (code : List Instruction) (n m : ℕ) → n ≤ m → BeginsValid base (take m code) → BeginsValid base (take n code)
begins_shorter base code n m le b =
    let a = shorter code n m le in
    (a.0 ++ b.0, subst (IsValid base) (ap (λ l. l ++ b.0) a.1 ∙ append_on (take n code) a.0 b.0) b.1)

not_before : (base : Context) (code : List Instruction) (p q : ℕ) (r s : Rule) → Refuses base code p r → Refuses base code q s → p < q → ⊥
not_before base code p q r s first second lt = first.here (begins_shorter base code (p + 1) q (omega (arith, lt)) second.before)

one_refusal : (base : Context) (code : List Instruction) (p q : ℕ) (r s : Rule) → Refuses base code p r → Refuses base code q s → (r ≡ s) × (p ≡ q)
one_refusal base code p q r s first second =
    let e : p ≡ q = neither p q (not_before base code p q r s first second) (not_before base code q p s r second first) in
    let again : Refuses base code p s = subst (λ n. Refuses base code n s) (sym e) second in
    let i : first.instr ≡ again.instr = some_same first.instr again.instr (sym first.stands ∙ again.stands) in
    (one_rule base (take p code) first.instr r s first.broken (subst (λ x. IsRule base (take p code) x s) (sym i) again.broken), e)

-- a valid body isn't refused
fine_body : (base : Context) (code : List Instruction) (place : ℕ) (rule : Rule) → IsValid base code → Refuses base code place rule → ⊥
fine_body base code place rule valid refuses =
    refuses.here (drop (place + 1) code, subst (IsValid base) (sym (take-append-drop (place + 1) code)) valid)

-- items

one_body : (m : WasmModule) (i : ℕ) (body : Option FunctionBody) (r s : Rule) (p q : ℕ) → BodyRefuses m i body r p → BodyRefuses m i body s q → (r ≡ s) × (p ≡ q)
one_body m i None r s p q first second = absurd first
one_body m i (Some body) r s p q first second = one_refusal (body_context m i body) body.code p q r s first second

abbrev IsRuled : Option Rule → Rule → ℕ → Type 0
IsRuled o r p = (o ≡ Some r) × (p ≡ 0)

one_item : (o : Option Rule) (r s : Rule) (p q : ℕ) → IsRuled o r p → IsRuled o s q → (r ≡ s) × (p ≡ q)
one_item o r s p q first second = (some_same r s (sym first.0 ∙ second.0), first.1 ∙ sym second.1)

one_break : (m : WasmModule) (section : Section) (i : ℕ) (r s : Rule) (p q : ℕ) → BreaksAt m section i r p → BreaksAt m section i s q → (r ≡ s) × (p ≡ q)
one_break m Types i r s p q first second = one_item _ r s p q first second
one_break m Imports i r s p q first second = one_item _ r s p q first second
one_break m Functions i r s p q first second = one_item _ r s p q first second
one_break m Tables i r s p q first second = one_item _ r s p q first second
one_break m Memories i r s p q first second = one_item _ r s p q first second
one_break m Globals i r s p q first second = one_item _ r s p q first second
one_break m Exports i r s p q first second = one_item _ r s p q first second
one_break m Start i r s p q first second = one_item _ r s p q first second
one_break m Elements i r s p q first second = one_item _ r s p q first second
one_break m Code i r s p q first second = one_body m i (slice_get m.bodies i) r s p q first second
one_break m Data i r s p q first second = one_item _ r s p q first second

valid_body : (m : WasmModule) (i : ℕ) (body : Option FunctionBody) (rule : Rule) (instruction : ℕ) → IsValidBody m i body → BodyRefuses m i body rule instruction → ⊥
valid_body m i None rule instruction valid refuses = refuses
valid_body m i (Some body) rule instruction valid refuses = fine_body (body_context m i body) body.code instruction rule valid refuses

none_ruled : (o : Option Rule) (r : Rule) (p : ℕ) → o ≡ None → IsRuled o r p → ⊥
none_ruled o r p fine breaks = let e : None ≡ Some r = sym fine ∙ breaks.0 in cc

fine_item : (m : WasmModule) (s : Section) (i : ℕ) (rule : Rule) (instruction : ℕ) → IsFine m s i → BreaksAt m s i rule instruction → ⊥
fine_item m Types i rule instruction fine breaks = none_ruled _ rule instruction fine breaks
fine_item m Imports i rule instruction fine breaks = none_ruled _ rule instruction fine breaks
fine_item m Functions i rule instruction fine breaks = none_ruled _ rule instruction fine breaks
fine_item m Tables i rule instruction fine breaks = none_ruled _ rule instruction fine breaks
fine_item m Memories i rule instruction fine breaks = none_ruled _ rule instruction fine breaks
fine_item m Globals i rule instruction fine breaks = none_ruled _ rule instruction fine breaks
fine_item m Exports i rule instruction fine breaks = none_ruled _ rule instruction fine breaks
fine_item m Start i rule instruction fine breaks = none_ruled _ rule instruction fine breaks
fine_item m Elements i rule instruction fine breaks = none_ruled _ rule instruction fine breaks
fine_item m Code i rule instruction fine breaks = valid_body m i (slice_get m.bodies i) rule instruction fine breaks
fine_item m Data i rule instruction fine breaks = none_ruled _ rule instruction fine breaks

-- modules

pub not_refused : (m : WasmModule) (r : Rule) (s : Section) (i p : ℕ) → IsValidModule m → RefusesModule m r s i p → ⊥
not_refused m r s i p valid refuses = fine_item m s i r p (valid s i refuses.within) refuses.here

not_section_before : (m : WasmModule) (r r2 : Rule) (s s2 : Section) (i i2 p p2 : ℕ) → RefusesModule m r s i p → RefusesModule m r2 s2 i2 p2 → id s < id s2 → ⊥
not_section_before m r r2 s s2 i i2 p p2 first second lt = fine_item m s i r p (second.sections s lt i first.within) first.here

pub one_answer : (m : WasmModule) (r r2 : Rule) (s s2 : Section) (i i2 p p2 : ℕ) → RefusesModule m r s i p → RefusesModule m r2 s2 i2 p2 → (r ≡ r2) × (s ≡ s2) × (i ≡ i2) × (p ≡ p2)
one_answer m r r2 s s2 i i2 p p2 first second =
    let section : s ≡ s2 = same_id s s2 (neither (id s) (id s2) (not_section_before m r r2 s s2 i i2 p p2 first second) (not_section_before m r2 r s2 s i2 i p2 p second first)) in
    let again : RefusesModule m r2 s i2 p2 = subst (λ t. RefusesModule m r2 t i2 p2) (sym section) second in
    let index : i ≡ i2 = neither i i2 (λ lt. fine_item m s i r p (again.items i lt) first.here) (λ gt. fine_item m s i2 r2 p2 (first.items i2 gt) again.here) in
    let both = one_break m s i r r2 p p2 first.here (subst (λ n. BreaksAt m s n r2 p2) (sym index) again.here) in
    (both.0, section, index, both.1)
