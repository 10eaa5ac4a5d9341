-- The instructions of each field of a module are nested, and an import or a table has the parts of its form.
use Rattle.std.proofs.Common.{◌≡◌, ◌⊎◌, inl, inr, ℕ, true, false, List, [], ◌∷◌, ◌++◌, Some, refl, sym, ap, ◌∙◌, subst, append-nil, append_assoc}
use Rattle.std.specs.List.{AllByRecursion}
use Rattle.wasm_lang.specs.Instructions.{Plain, nop, Instruction, unreachable, block, loop, if_block, else_mark, end_mark, br, br_if, br_table, return, call, call_indirect, plain, is_simple, Nested, empty, simple, in_block, in_loop, in_if, in_arms}
use Rattle.wat_lang.specs.declared.parts.Space.{Space}
use Rattle.wat_lang.specs.declared.parts.Space.TheVariants as spaces
use Rattle.wat_lang.specs.declared.parts.Part.TheVariants.{Param, Result, Local}
use Rattle.wat_lang.specs.declared.parts.FieldKind.{FieldKind}
use Rattle.wat_lang.specs.declared.parts.FieldKind.TheVariants as kinds
use Rattle.wat_lang.specs.declared.parts.Rule.{Rule}
use Rattle.wat_lang.specs.declared.parts.Rule.TheVariants as rules
use Rattle.wat_lang.specs.Tokens.{Token}
use Rattle.wat_lang.specs.Words.{instruction_names}
use Rattle.wat_lang.specs.Grammar.{Want, Mark, nothing, a_field, a_described, an_exported, binds, uses, a_type, a_global_type, a_maximum, a_minimum, some_bytes, an_offset, an_alignment, a_module_name, a_field_name, a_string, a_number, an_instruction, Item, token, rule, Row, opened, closed, plain_immediates, immediates, begins_instruction, instruction_row, rows, may_end, Marked, marked, Derives, all_done, one_token, goes_on, ends, IsGrammatical}
use Rattle.wat_lang.specs.Names.{Names, Field, Cut, cut, Entry, described, first_with, labels_after, fields_of}
use Rattle.wat_lang.specs.Modules.{is_minimum, with_immediates, immediates_in, instructions_in}
use Rattle.wat_laws_read.proofs.Lists.{always}
use Rattle.wat_laws_read.proofs.Stacks.{each_row, each_instruction, PlacedBehind, Placed, placed_rows, placed_left}

-- ---- what the instructions of a field are, by what its stack still asks for

abbrev pub SpellsBehind : Mark → (List Instruction → Type 0) → List Instruction → Type 0
SpellsBehind (an_instruction form) Rest code = (rest : List Instruction) × (code ≡ end_mark ∷ rest) × Rest rest
SpellsBehind m Rest code = Rest code

abbrev pub SpellsArms : (List Instruction → Type 0) → List Instruction → Type 0
SpellsArms Rest code =
    ((rest : List Instruction) × (code ≡ end_mark ∷ rest) × Rest rest)
    ⊎ ((body : List Instruction) × (rest : List Instruction) × (code ≡ else_mark ∷ (body ++ end_mark ∷ rest)) × Nested body × Rest rest)

abbrev pub Spells : List Item → List Instruction → Type 0
Spells [] code = code ≡ []
Spells (token w m ∷ is) code = SpellsBehind m (Spells is) code
Spells (rule rules.Grammar ∷ is) code = code ≡ []
Spells (rule rules.Fields ∷ is) code = code ≡ []
Spells (rule rules.Field ∷ is) code = code ≡ []
Spells (rule rules.Constant ∷ is) code = (i : Instruction) × (rest : List Instruction) × (code ≡ i ∷ rest) × (is_simple i ≡ true) × Spells is rest
Spells (rule rules.Code ∷ is) code = (body : List Instruction) × (rest : List Instruction) × (code ≡ body ++ rest) × Nested body × Spells is rest
Spells (rule rules.Arms ∷ is) code = SpellsArms (Spells is) code
Spells (rule r ∷ is) code = Spells is code

-- ---- what holds of a field

-- its least size is marked as a table's
abbrev pub HasTableMinimum : List Marked → Type 0
HasTableMinimum parts = (m : Marked) × (first_with is_minimum parts ≡ Some m) × (m.mark ≡ a_minimum spaces.Table)

abbrev pub DescribesWell : Space → List Marked → Type 0
DescribesWell spaces.Func parts = Unit {0}
DescribesWell spaces.Table parts = HasTableMinimum parts
DescribesWell spaces.Memory parts = Unit {0}
DescribesWell spaces.Global parts = Unit {0}
DescribesWell s parts = ⊥

abbrev pub HasForm : FieldKind → List Marked → Type 0
HasForm kinds.Import parts = (e : Entry) × (described parts ≡ Some e) × DescribesWell e.space parts
HasForm kinds.Table parts = HasTableMinimum parts
HasForm kind parts = Unit {0}

abbrev pub IsNested : List Marked → Type 0
IsNested parts = (names : Names → Space → Names) (labels : Names) → Nested (instructions_in names labels parts)

pub record FieldHolds (f : Field) : Type 0 where
  pub nested : IsNested f.parts
  pub form : HasForm f.kind f.parts

-- ---- an import and a table

table_minimum : {is : List Item} {ms : List Marked} {ts : List Token} → Derives (rule (rules.Bound spaces.Table) ∷ token a_number (a_minimum spaces.Table) ∷ is) ms ts → HasTableMinimum (cut ms).0
unfolding rows
table_minimum {is = is} (goes_on {ms = ms} {t = t} {ts = ts} i e d) =
    each_row (λ (w : Row). Derives (w.next ++ token a_number (a_minimum spaces.Table) ∷ is) ms ts → HasTableMinimum (cut (marked w.mark t ∷ ms)).0) ((λ d. number d), tt) i d
  where
    number : {js : List Item} {ns : List Marked} {us : List Token} → Derives (token a_number (a_minimum spaces.Table) ∷ js) ns us → HasTableMinimum (cut ns).0
    number (one_token {t = t} e d) = (marked (a_minimum spaces.Table) t, refl, refl)
table_minimum (ends m b d) = number d
  where
    number : {js : List Item} {ns : List Marked} {us : List Token} → Derives (token a_number (a_minimum spaces.Table) ∷ js) ns us → HasTableMinimum (cut ns).0
    number (one_token {t = t} e d) = (marked (a_minimum spaces.Table) t, refl, refl)

abbrev Describes : List Marked → Type 0
Describes parts = (e : Entry) × (described parts ≡ Some e) × DescribesWell e.space parts

description : {is : List Item} {ms : List Marked} {ts : List Token} → Derives (rule rules.Described ∷ is) ms ts → Describes (cut ms).0
unfolding rows may_end
description {is = is} (goes_on {ms = ms} {t = t} {ts = ts} i e d) =
    each_row (λ (w : Row). Derives (w.next ++ is) ms ts → Describes (cut (marked w.mark t ∷ ms)).0) (
      (λ d. (record { space = spaces.Func; at = t.at }, refl, tt)),
      (
        (λ d. (record { space = spaces.Table; at = t.at }, refl, table_minimum d)),
        ((λ d. (record { space = spaces.Memory; at = t.at }, refl, tt)), ((λ d. (record { space = spaces.Global; at = t.at }, refl, tt)), tt)),
      ),
    ) i d
description (ends m b d) = absurd cc

-- behind the two names of an import
described_behind : (s : Space) (a b c : Token) (parts : List Marked) → DescribesWell s parts → DescribesWell s (marked a_module_name a ∷ marked a_field_name b ∷ marked nothing c ∷ parts)
described_behind spaces.Func a b c parts h = tt
described_behind spaces.Table a b c parts h = h
described_behind spaces.Memory a b c parts h = tt
described_behind spaces.Global a b c parts h = tt
described_behind _ a b c parts h = absurd h

import_form : {is : List Item} {ms : List Marked} {ts : List Token} → Derives (token a_string a_module_name ∷ token a_string a_field_name ∷ opened ∷ rule rules.Described ∷ is) ms ts → Describes (cut ms).0
import_form (one_token {t = a} e (one_token {t = b} f (one_token {ms = ms} {t = c} g d))) =
    let h = description d in
    (h.0, h.1, described_behind (h.0).space a b c (cut ms).0 h.2)

-- ---- rows

-- what holds of the instructions before the next field, with these names, and of the fields
abbrev pub Good : (List Instruction → Type 0) → Cut → Type 0
Good Code c = ((names : Names → Space → Names) (labels : Names) → Code (instructions_in names labels c.0)) × AllByRecursion FieldHolds c.1

abbrev IsQuiet : Mark → Type 0
IsQuiet (a_field kind) = ⊥
IsQuiet (an_instruction form) = ⊥
IsQuiet m = Unit {0}

quiet : (Code : List Instruction → Type 0) (m : Mark) (t : Token) (ms : List Marked) → IsQuiet m → Good Code (cut ms) → Good Code (cut (marked m t ∷ ms))
quiet Code (a_field kind) t ms q g = absurd q
quiet Code (an_instruction form) t ms q g = absurd q
quiet Code m t ms q g = ((λ names labels. g.0 names (labels_after labels (marked m t))), g.1)

-- a block: its body, its end, and what follows
closing : (body more rest after code : List Instruction) (behind : List Instruction) → code ≡ body ++ behind → behind ≡ end_mark ∷ after → after ≡ more ++ rest → code ≡ (body ++ end_mark ∷ more) ++ rest
closing body more rest after code behind e f g =
    e ∙ (ap (λ (xs : List Instruction). body ++ xs) (f ∙ ap (λ (xs : List Instruction). end_mark ∷ xs) g) ∙ sym (append_assoc body (end_mark ∷ more) rest))

arms_closing : (body second more rest after code behind : List Instruction) → code ≡ body ++ behind → behind ≡ else_mark ∷ (second ++ end_mark ∷ after) → after ≡ more ++ rest
    → code ≡ (body ++ else_mark ∷ (second ++ end_mark ∷ more)) ++ rest
arms_closing body second more rest after code behind e f g =
    let inner : second ++ end_mark ∷ after ≡ (second ++ end_mark ∷ more) ++ rest = closing second more rest after (second ++ end_mark ∷ after) (end_mark ∷ after) refl refl g in
    e ∙ (ap (λ (xs : List Instruction). body ++ xs) (f ∙ ap (λ (xs : List Instruction). else_mark ∷ xs) inner) ∙ sym (append_assoc body (else_mark ∷ (second ++ end_mark ∷ more)) rest))

-- code begins with the instruction
abbrev SpellsCode : List Item → List Instruction → Type 0
SpellsCode is code = (body : List Instruction) × (rest : List Instruction) × (code ≡ body ++ rest) × Nested body × Spells is rest

plain_skipped : (p : Plain) (is : List Item) (code : List Instruction) → Spells ((plain_immediates p ++ rule rules.Code ∷ []) ++ is) code → SpellsCode is code
plain_skipped nop is code s = s
plain_skipped _ is code s = s

alone : (i : Instruction) (is : List Item) (code : List Instruction) → is_simple i ≡ true → SpellsCode is code → SpellsCode is (i ∷ code)
alone i is code e s = (i ∷ s.0, s.1, ap (λ (xs : List Instruction). i ∷ xs) s.2, simple e s.3, s.4)

module _ (names : Space → Names) (ns : List Marked) (is : List Item) (code : List Instruction) where
  form_spells : (i : Instruction) → begins_instruction i ≡ true → Spells ((immediates i ++ rule rules.Code ∷ []) ++ is) code → SpellsCode is (with_immediates names ns i ∷ code)
  form_spells unreachable b s = alone (with_immediates names ns unreachable) is code refl s
  form_spells (block r) b s =
      let end = s.4 in let more = end.2 in (
        with_immediates names ns (block r) ∷ (s.0 ++ end_mark ∷ more.0),
        more.1,
        ap (λ (xs : List Instruction). with_immediates names ns (block r) ∷ xs) (closing s.0 more.0 more.1 end.0 code s.1 s.2 end.1 more.2),
        in_block s.3 more.3,
        more.4,
      )
  form_spells (loop r) b s =
      let end = s.4 in let more = end.2 in (
        with_immediates names ns (loop r) ∷ (s.0 ++ end_mark ∷ more.0),
        more.1,
        ap (λ (xs : List Instruction). with_immediates names ns (loop r) ∷ xs) (closing s.0 more.0 more.1 end.0 code s.1 s.2 end.1 more.2),
        in_loop s.3 more.3,
        more.4,
      )
  form_spells (if_block r) b s = by s.4
    where
      i : Instruction
      i = with_immediates names ns (if_block r)

      by : SpellsArms (SpellsCode is) s.1 → SpellsCode is (i ∷ code)
      by (inl end) =
          let more = end.2 in
          (i ∷ (s.0 ++ end_mark ∷ more.0), more.1, ap (λ (xs : List Instruction). i ∷ xs) (closing s.0 more.0 more.1 end.0 code s.1 s.2 end.1 more.2), in_if s.3 more.3, more.4)
      by (inr arm) =
          let more = arm.4 in (
            i ∷ (s.0 ++ else_mark ∷ (arm.0 ++ end_mark ∷ more.0)),
            more.1,
            ap (λ (xs : List Instruction). i ∷ xs) (arms_closing s.0 arm.0 more.0 more.1 arm.1 code s.1 s.2 arm.2 more.2),
            in_arms s.3 arm.3 more.3,
            more.4,
          )
  form_spells else_mark b s = absurd cc
  form_spells end_mark b s = absurd cc
  form_spells (br l) b s = alone (with_immediates names ns (br l)) is code refl s
  form_spells (br_if l) b s = alone (with_immediates names ns (br_if l)) is code refl s
  form_spells (br_table ls l) b s = alone (with_immediates names ns (br_table ls l)) is code refl s
  form_spells return b s = alone (with_immediates names ns return) is code refl s
  form_spells (call f) b s = alone (with_immediates names ns (call f)) is code refl s
  form_spells (call_indirect t) b s = alone (with_immediates names ns (call_indirect t)) is code refl s
  form_spells (plain p) b s = alone (with_immediates names ns (plain p)) is code refl (plain_skipped p is code s)

abbrev RowHolds : Rule → List Item → Token → List Marked → List Token → Row → Type 0
RowHolds r is t ms ts w = Derives (w.next ++ is) ms ts → Good (Spells (w.next ++ is)) (cut ms) → Good (Spells (rule r ∷ is)) (cut (marked w.mark t ∷ ms))

code_row : (is : List Item) (t : Token) (ms : List Marked) (ts : List Token) (e : List ℕ × Instruction) → begins_instruction e.1 ≡ true → RowHolds rules.Code is t ms ts (instruction_row e)
code_row is t ms ts e b d g =
    ((λ names labels. form_spells (names labels) (immediates_in (cut ms).0) is (instructions_in names (labels_after labels (marked (an_instruction e.1) t)) (cut ms).0) e.1 b (g.0 names (labels_after labels (marked (an_instruction e.1) t)))), g.1)

field_end : (is : List Item) → is ≡ closed ∷ rule rules.Fields ∷ closed ∷ [] → (code : List Instruction) → Spells is code → code ≡ []
field_end is h code s = subst (λ (js : List Item). Spells js code → code ≡ []) (sym h) (λ s. s) s

no_code : (is : List Item) → is ≡ closed ∷ rule rules.Fields ∷ closed ∷ [] → (code : List Instruction) → Spells is code → Nested code
no_code is h code s = subst Nested (sym (field_end is h code s)) empty

all_code : (is : List Item) → is ≡ closed ∷ rule rules.Fields ∷ closed ∷ [] → (code : List Instruction) → SpellsCode is code → Nested code
all_code is h code s = subst Nested (sym (s.2 ∙ ap (λ (xs : List Instruction). s.0 ++ xs) (field_end is h s.1 s.4) ∙ append-nil s.0)) s.3

one_constant : (is : List Item) → is ≡ closed ∷ rule rules.Fields ∷ closed ∷ [] → (code : List Instruction) → Spells (rule rules.Constant ∷ is) code → Nested code
one_constant is h code s = subst Nested (sym (s.2 ∙ ap (λ (xs : List Instruction). s.0 ∷ xs) (field_end is h s.1 s.4))) (simple s.3 empty)

field_row : (kind : FieldKind) (is : List Item) (t : Token) (ms : List Marked) → IsNested (cut ms).0 → HasForm kind (cut ms).0 → AllByRecursion FieldHolds (cut ms).1 → Good (Spells (rule rules.Field ∷ is)) (cut (marked (a_field kind) t ∷ ms))
field_row kind is t ms n f more = ((λ names labels. refl), (record { nested = n; form = f }, more))

module _ (is : List Item) (t : Token) (ms : List Marked) (ts : List Token) where
  abbrev Nest : (List Instruction → Type 0) → Type 0
  Nest Code = (code : List Instruction) → Code code → Nested code

  plain_field : (kind : FieldKind) (Code : List Instruction → Type 0) → Nest Code → HasForm kind (cut ms).0 → Good Code (cut ms) → Good (Spells (rule rules.Field ∷ is)) (cut (marked (a_field kind) t ∷ ms))
  plain_field kind Code n f g = field_row kind is t ms (λ names labels. n (instructions_in names labels (cut ms).0) (g.0 names labels)) f g.1

  rows_hold : (r : Rule) → Placed (rule r ∷ is) → AllByRecursion (RowHolds r is t ms ts) (rows r)
  unfolding rows
  rows_hold rules.Grammar p = ((λ d g. quiet (λ code. code ≡ []) nothing t ms tt g), tt)
  rows_hold rules.Name p = ((λ d g. quiet (Spells is) nothing t ms tt g), tt)
  rows_hold (rules.Bound s) p = ((λ d g. quiet (Spells is) (binds s) t ms tt g), tt)
  rows_hold rules.Fields p = ((λ d g. quiet (λ code. code ≡ []) nothing t ms tt g), tt)
  rows_hold rules.Field p = (
    (λ d g. plain_field kinds.Type (Spells is) (no_code is p) tt g),
    (
      (λ d g. plain_field kinds.Import (Spells is) (no_code is p) (import_form d) g),
      (
        (λ d g. plain_field kinds.Func (SpellsCode is) (all_code is p) tt g),
        (
          (λ d g. plain_field kinds.Table (Spells is) (no_code is p) (table_minimum d) g),
          (
            (λ d g. plain_field kinds.Memory (Spells is) (no_code is p) tt g),
            (
              (λ d g. plain_field kinds.Global (Spells (rule rules.Constant ∷ is)) (one_constant is p) tt g),
              (
                (λ d g. plain_field kinds.Export (Spells is) (no_code is p) tt g),
                (
                  (λ d g. plain_field kinds.Start (Spells is) (no_code is p) tt g),
                  (
                    (λ d g. plain_field kinds.Elem (Spells (rule rules.Constant ∷ is)) (one_constant is p) tt g),
                    ((λ d g. plain_field kinds.Data (Spells (rule rules.Constant ∷ is)) (one_constant is p) tt g), tt),
                  ),
                ),
              ),
            ),
          ),
        ),
      ),
    ),
  )
  rows_hold rules.Described p = (
    (λ d g. quiet (Spells is) (a_described spaces.Func) t ms tt g),
    (
      (λ d g. quiet (Spells is) (a_described spaces.Table) t ms tt g),
      ((λ d g. quiet (Spells is) (a_described spaces.Memory) t ms tt g), ((λ d g. quiet (Spells is) (a_described spaces.Global) t ms tt g), tt)),
    ),
  )
  rows_hold rules.Exported p = (
    (λ d g. quiet (Spells is) (an_exported spaces.Func) t ms tt g),
    (
      (λ d g. quiet (Spells is) (an_exported spaces.Table) t ms tt g),
      ((λ d g. quiet (Spells is) (an_exported spaces.Memory) t ms tt g), ((λ d g. quiet (Spells is) (an_exported spaces.Global) t ms tt g), tt)),
    ),
  )
  rows_hold (rules.Heads l q) p = ((λ d g. quiet (Spells is) nothing t ms tt g), tt)
  rows_hold (rules.Head true Param) p = ((λ d g. quiet (Spells is) nothing t ms tt g), ((λ d g. quiet (Spells is) nothing t ms tt g), ((λ d g. quiet (Spells is) nothing t ms tt g), tt)))
  rows_hold (rules.Head true Result) p = ((λ d g. quiet (Spells is) nothing t ms tt g), ((λ d g. quiet (Spells is) nothing t ms tt g), tt))
  rows_hold (rules.Head true Local) p = ((λ d g. quiet (Spells is) nothing t ms tt g), tt)
  rows_hold (rules.Head false Param) p = ((λ d g. quiet (Spells is) nothing t ms tt g), ((λ d g. quiet (Spells is) nothing t ms tt g), tt))
  rows_hold (rules.Head false Result) p = ((λ d g. quiet (Spells is) nothing t ms tt g), tt)
  rows_hold (rules.Head false Local) p = tt
  rows_hold (rules.Types Param) p = ((λ d g. quiet (Spells is) (a_type Param) t ms tt g), ((λ d g. quiet (Spells is) (binds spaces.Local) t ms tt g), tt))
  rows_hold (rules.Types Result) p = ((λ d g. quiet (Spells is) (a_type Result) t ms tt g), tt)
  rows_hold (rules.Types Local) p = ((λ d g. quiet (Spells is) (a_type Local) t ms tt g), ((λ d g. quiet (Spells is) (binds spaces.Local) t ms tt g), tt))
  rows_hold (rules.More q) p = ((λ d g. quiet (Spells is) (a_type q) t ms tt g), tt)
  rows_hold rules.TableEnd p = ((λ d g. quiet (Spells is) a_maximum t ms tt g), ((λ d g. quiet (Spells is) nothing t ms tt g), tt))
  rows_hold rules.Maximum p = ((λ d g. quiet (Spells is) a_maximum t ms tt g), tt)
  rows_hold rules.Kind p = ((λ d g. quiet (Spells is) a_global_type t ms tt g), ((λ d g. quiet (Spells is) nothing t ms tt g), tt))
  rows_hold rules.Constant p = (
    (λ d g. ((λ names labels. (_, _, refl, refl, g.0 names labels)), g.1)),
    (
      (λ d g. ((λ names labels. (_, _, refl, refl, g.0 names labels)), g.1)),
      ((λ d g. ((λ names labels. (_, _, refl, refl, g.0 names labels)), g.1)), tt),
    ),
  )
  rows_hold rules.Functions p = ((λ d g. quiet (Spells is) (uses spaces.Func) t ms tt g), tt)
  rows_hold rules.Labels p = ((λ d g. quiet (Spells is) (uses spaces.Label) t ms tt g), tt)
  rows_hold rules.Strings p = ((λ d g. quiet (Spells is) some_bytes t ms tt g), tt)
  rows_hold rules.FuncWord p = ((λ d g. quiet (Spells is) nothing t ms tt g), tt)
  rows_hold rules.Code p = each_instruction (RowHolds rules.Code is t ms ts) (λ e. Unit {0}) (λ e b h. code_row is t ms ts e b) instruction_names (always (λ e. Unit {0}) (λ e. tt) instruction_names)
  rows_hold rules.Label p = ((λ d g. quiet (Spells is) (binds spaces.Label) t ms tt g), tt)
  rows_hold rules.BlockResult p = ((λ d g. quiet (Spells is) nothing t ms tt g), tt)
  rows_hold rules.Arms p = (
    (λ d g. ((λ names labels. (let s = g.0 names labels in let end = s.4 in inr (s.0, end.0, ap (λ (xs : List Instruction). else_mark ∷ xs) (s.2 ∙ ap (λ (xs : List Instruction). s.0 ++ xs) end.1), s.3, end.2))), g.1)),
    ((λ d g. ((λ names labels. inl (_, refl, g.0 names (labels_after labels (marked (an_instruction end_mark) t)))), g.1)), tt),
  )
  rows_hold rules.Offset p = ((λ d g. quiet (Spells is) an_offset t ms tt g), tt)
  rows_hold rules.Align p = ((λ d g. quiet (Spells is) an_alignment t ms tt g), tt)

-- ---- derivations

token_holds : (m : Mark) (t : Token) (ms : List Marked) (w : Want) (is : List Item) → PlacedBehind m (Placed is) → (Placed is → Good (Spells is) (cut ms)) → Good (Spells (token w m ∷ is)) (cut (marked m t ∷ ms))
token_holds (a_field kind) t ms w is p g = absurd p
token_holds (an_instruction form) t ms w is p g =
    let h = g p.1 in
    ((λ names labels. (_, ap (λ (i : Instruction). with_immediates (names labels) (immediates_in (cut ms).0) i ∷ instructions_in names (labels_after labels (marked (an_instruction form) t)) (cut ms).0) p.0, h.0 names (labels_after labels (marked (an_instruction form) t)))), h.1)
token_holds m t ms w is p g = quiet (Spells is) m t ms tt (g p)

left : (r : Rule) (is : List Item) (code : List Instruction) → may_end r ≡ true → Placed (rule r ∷ is) → Spells is code → Spells (rule r ∷ is) code
unfolding may_end
left rules.Grammar is code e p s = absurd cc
left rules.Field is code e p s = absurd cc
left rules.Constant is code e p s = absurd cc
left rules.Arms is code e p s = absurd cc
left rules.Fields is code e p s = subst (λ (js : List Item). Spells js code → code ≡ []) (sym p) (λ s. s) s
left rules.Code is code e p s = ([], code, refl, empty, s)
left _ is code e p s = s

holds : {is : List Item} {ms : List Marked} {ts : List Token} → Derives is ms ts → Placed is → Good (Spells is) (cut ms)
holds all_done p = ((λ names labels. refl), tt)
holds (one_token {w = w} {m = m} {is = is} {ms = ms} {t = t} e d) p = token_holds m t ms w is p (λ q. holds d q)
holds (goes_on {r = r} {w = w} {is = is} {ms = ms} {t = t} {ts = ts} i e d) p =
    let placed : Placed (w.next ++ is) = each_row (λ (v : Row). Placed (v.next ++ is)) (placed_rows r is p) i in
    let row : RowHolds r is t ms ts w = each_row (RowHolds r is t ms ts) (rows_hold is t ms ts r p) i in
    row d (holds d placed)
holds (ends {r = r} {is = is} {ms = ms} {ts = ts} m b d) p =
    let g = holds d (placed_left r is m p) in
    ((λ names labels. left r is (instructions_in names labels (cut ms).0) m p (g.0 names labels)), g.1)

-- ---- modules

pub fields_hold : (ms : List Marked) (ts : List Token) → IsGrammatical ms ts → AllByRecursion FieldHolds (fields_of ms)
fields_hold ms ts d = (holds d refl).1
