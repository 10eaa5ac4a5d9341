-- A peak above the limit is a node of some module: the tokens that end it at once make one.
use Rattle.std.proofs.Common.{ℕ, suc, ◌≡◌, ◌≤◌, ◌<◌, ◌+◌, max, Bool, true, false, List, [], ◌∷◌, ◌++◌, length, Some, None, ◌⊎◌, inl, inr, refl, sym, ap, subst, arith, append_assoc}
use Rattle.std.proofs.lemmas.Bool.{cases_lt}
use Rattle.std.specs.Prelude.{pos, neg_ℤ}
use Rattle.sem_words.specs.declared.js_value.JsOp.TheVariants.{Or}
use Rattle.asm_lang.specs.Lexemes.{Class, identifier, return_word, while_word, a_number, directive, close_brace, close_paren, semicolon, equals, operator, Lexeme, Want, sign, a_property, named, a_zero, a_nonzero, Meets, here, At}
use Rattle.asm_lang.specs.Trees.{ExprTree, literal, variable, element, no_expr, plain, empty, if_only, no_stmt, no_clause, one_clause, number, member, VariableTree, ParamTree, FunctionTree, TableTree, one, Heading, ModuleTree}
use Rattle.asm_lang.specs.Grammar.{IsExpr, an_operand, a_binary, a_conditional, an_assignment, a_store, a_list, IsOperand, a_literal, a_negative, a_decimal_literal, a_variable, an_element, a_call, a_table_call, in_parens, a_prefix, a_minus, no_argument, no_further, may_miss_before, may_miss, written, missing, begins_semicolon, is_semicolon, do_missing, absent, no_value, no_label, positive, negative, a_plain, an_empty, no_stmts, no_clauses, a_member, of_literal, no_names, no_var, an_end, no_marks, an_int_mark, no_functions, no_export, export_one, an_exported, nothing_more, IsModule}
use Rattle.asm_lang.specs.Machine.{is_quiet, State, closes, at_expr, after_minus, after_name, after_index, after_expr, at_arguments, in_rest, ends, ends_do, at_stmt, after_stmt_name, at_option, at_return, at_target, after_arm, after_body, at_stmts, at_clauses, in_case, at_literal, after_sign, at_init, after_member, in_names, at_marks, at_locals, in_locals, may_comma, at_use, at_globals, at_value, in_globals, at_functions, at_tables, in_tables, at_export, at_exports, in_exports, at_end, Step, goes, expects, either, refuses, int_mark, variable_of, module_of}
use Rattle.asm_lang.proofs.Sound.{at_level}
use Rattle.asm_lang.proofs.Viable.{bytes_same, Quiet, quiet_stops, quiet_no_else}
use Rattle.asm_lang.specs.TreeHeights.{height}
use Rattle.asm_lang.specs.HighNodes.{Here, HighExpr, HighOperand, HighModule}
use Rattle.asm_laws_height.specs.Peaks.{last_function, peak, step_peak}
use Rattle.asm_laws_height.proofs.Carried.{Open, Found, ExportsOn, TablesOn, FunctionsOn, GlobalsOn, Carries, CarriesStep, Moves, mono, mono_step, high_at_level}

-- ---- tokens that begin a line

abbrev sample : Class → Lexeme
sample c = record { class = c; text = []; value = 0; line = true; at = 0 }

abbrev sample_of : Want → Lexeme
sample_of (sign c) = sample c
sample_of a_property = sample identifier
sample_of (named bs) = record { class = identifier; text = bs; value = 0; line = true; at = 0 }
sample_of a_zero = sample a_number
sample_of a_nonzero = record { class = a_number; text = []; value = 1; line = true; at = 0 }

sample_meets : (w : Want) → Meets w (sample_of w)
sample_meets (sign c) = refl
sample_meets a_property = refl
sample_meets (named bs) = (refl, bytes_same bs)
sample_meets a_zero = (refl, refl)
sample_meets a_nonzero = (refl, refl)

abbrev a_semicolon : Lexeme
a_semicolon = sample semicolon

abbrev a_brace : Lexeme
a_brace = sample close_brace

abbrev a_sample_number : Lexeme
a_sample_number = sample a_number

abbrev named_token : Lexeme → Lexeme
named_token p = sample_of (named p.text)

-- on the line of its `return`
abbrev an_export : Lexeme
an_export = record { class = identifier; text = []; value = 0; line = false; at = 0 }

-- `return f;}`
abbrev export_tokens : List Lexeme
export_tokens = sample return_word ∷ an_export ∷ a_semicolon ∷ a_brace ∷ []

-- `p=p|0;`
abbrev mark_tokens : Lexeme → List Lexeme → List Lexeme
mark_tokens p ys = named_token p ∷ sample equals ∷ named_token p ∷ sample (operator Or) ∷ a_sample_number ∷ a_semicolon ∷ ys

no_semicolon : (c : Class) (line : Bool) → may_miss_before c line ≡ true → is_semicolon c ≡ false
no_semicolon semicolon line h = absurd cc
no_semicolon _ line h = refl

miss_no_semicolon : (ys : List Lexeme) → may_miss ys ≡ true → begins_semicolon ys ≡ false
miss_no_semicolon [] h = refl
miss_no_semicolon (t ∷ ts) h = no_semicolon t.class t.line h

max_split : (limit a b : ℕ) → limit < max a b → (limit < a) ⊎ (limit < b)
max_split limit a b lt = elim (cases_lt limit a) [ inl l ↦ inl l | inr le ↦ inr (omega arith) ]

one_shorter : {c : Class} {t : Lexeme} {xs ys : List Lexeme} → At c t xs ys → length xs ≡ suc (length ys)
one_shorter (here h) = refl

module _ (limit : ℕ) where
  -- ---- what is above the limit itself

  mutual
    here_expr : (mark : ℕ) {p : ℕ} {e : ExprTree} {xs ys : List Lexeme} (x : IsExpr p e xs ys) → Here limit mark (height e) ys → HighExpr limit mark x
    here_expr mark (an_operand x) h = here_operand mark x h
    here_expr mark (a_binary low x i y) h = inl h
    here_expr mark (a_conditional low x i y j z) h = inl h
    here_expr mark (an_assignment low i j x) h = inl h
    here_expr mark (a_store low i x j y) h = inl h
    here_expr mark (a_list low x i y r) h = inl h

    here_operand : (mark : ℕ) {e : ExprTree} {xs ys : List Lexeme} (x : IsOperand e xs ys) → Here limit mark (height e) ys → HighOperand limit mark x
    here_operand mark (a_literal i) h = h
    here_operand mark (a_negative i j) h = h
    here_operand mark (a_decimal_literal i) h = h
    here_operand mark (a_variable i) h = h
    here_operand mark (an_element i x) h = inl h
    here_operand mark (a_call i j x) h = inl h
    here_operand mark (a_table_call i x j y) h = inl h
    here_operand mark (in_parens i x j) h = let le = h.1 in here_expr mark x (h.0, omega (arith, one_shorter j))
    here_operand mark (a_prefix q i x) h = inl h
    here_operand mark (a_minus i b x) h = inl h

  -- ---- modules from here on

  -- after n tokens
  abbrev Promise : Type 0 → ℕ → List Lexeme → State → Type 0
  Promise G n front s = (ys : List Lexeme) (mark : ℕ) → mark ≡ n + length ys → Quiet ys → (Open s → may_miss ys ≡ true) → Carries limit mark (front ++ ys) G s ys

  abbrev PromiseStep : Type 0 → ℕ → List Lexeme → Step → Type 0
  PromiseStep G n front s = (ys : List Lexeme) (mark : ℕ) → mark ≡ n + length ys → CarriesStep limit mark (front ++ ys) G s ys

  -- a module of these tokens with such a node
  abbrev pub High : ModuleTree → ℕ → List Lexeme → Type 0
  High m mark xs = (d : IsModule m xs) × HighModule limit mark d

  pub record Ending (n : ℕ) (front : List Lexeme) : Type 0 where
    pub tokens : List Lexeme
    pub found : ModuleTree
    pub whole : High found (n + length tokens) (front ++ tokens)

  record Finish (n : ℕ) (front : List Lexeme) (O : Type 0) : Type 0 where
    ending : Ending n front
    quiet : Quiet ending.tokens
    misses : O → may_miss ending.tokens ≡ true

  moved_high : {m : ModuleTree} {a b : ℕ} {xs ys : List Lexeme} → a ≡ b → xs ≡ ys → High m a xs → High m b ys
  moved_high {m = m} {a = a} {ys = ys} e f h = subst (λ (k : ℕ). High m k ys) e (subst (λ (zs : List Lexeme). High m a zs) f h)

  abbrev shifted : (n : ℕ) (front : List Lexeme) (t : Lexeme) → Ending (suc n) (front ++ t ∷ []) → Ending n front
  shifted n front t e = record { tokens = t ∷ e.tokens; found = e.found; whole = moved_high (let same : suc n + length e.tokens ≡ n + length (t ∷ e.tokens) = omega arith in same) (append_assoc front (t ∷ []) e.tokens) e.whole }

  ending_of : {n : ℕ} {front : List Lexeme} {O : Type 0} → Finish n front O → Ending n front
  ending_of f = f.ending

  after_token : (n : ℕ) (front : List Lexeme) (O : Type 0) (t : Lexeme) → is_quiet t.class ≡ true → (O → may_miss_before t.class t.line ≡ true) → Ending (suc n) (front ++ t ∷ []) → Finish n front O
  after_token n front O t q m e = record { ending = shifted n front t e; quiet = q; misses = m }

  other_miss : {n : ℕ} {front : List Lexeme} {O P : Type 0} → (P → O) → Finish n front O → Finish n front P
  other_miss w f = record { ending = f.ending; quiet = f.quiet; misses = λ p. f.misses (w p) }

  no : {A : Type 0} → ⊥ → A
  no bad = absurd bad

  moved : (mark : ℕ) (G : Type 0) (s : State) (front : List Lexeme) (t : Lexeme) (ys : List Lexeme) → Carries limit mark (front ++ t ∷ ys) G s ys → Carries limit mark ((front ++ t ∷ []) ++ ys) G s ys
  moved mark G s front t ys h = subst (λ (xs : List Lexeme). Carries limit mark xs G s ys) (sym (append_assoc front (t ∷ []) ys)) h

  moved_step : (mark : ℕ) (G : Type 0) (s : Step) (front : List Lexeme) (t : Lexeme) (ys : List Lexeme) → CarriesStep limit mark (front ++ t ∷ ys) G s ys → CarriesStep limit mark ((front ++ t ∷ []) ++ ys) G s ys
  moved_step mark G s front t ys h = subst (λ (xs : List Lexeme). CarriesStep limit mark xs G s ys) (sym (append_assoc front (t ∷ []) ys)) h

  counted_on : (n mark : ℕ) (t : Lexeme) (ys : List Lexeme) → mark ≡ suc n + length ys → mark ≡ n + length (t ∷ ys)
  counted_on n mark t ys is = omega arith

  -- ---- declarations to come

  done : {mark : ℕ} {all : List Lexeme} {G : Type 0} {m : ModuleTree} → Found limit mark all G m → G → High m mark all
  done f g = (f.0, f.1 g)

  export_done : {mark : ℕ} {all : List Lexeme} (G : Type 0) → G → (h : Heading) (gs : List VariableTree) (fs : List FunctionTree) (ts : List TableTree) → ExportsOn limit mark all G h gs fs ts export_tokens → High (module_of h gs fs ts (one 0 [])) mark all
  export_done G g h gs fs ts r = let f = r (one 0 []) a_brace (a_brace ∷ []) [] (an_exported (here refl) refl (export_one (here refl) (written (here refl)))) (here refl) nothing_more in (f.0, f.1 (inl g))

  tables_done : {mark : ℕ} {all : List Lexeme} (G : Type 0) → G → (h : Heading) (gs : List VariableTree) (fs : List FunctionTree) (ts : List TableTree) → TablesOn limit mark all G false h gs fs ts export_tokens → High (module_of h gs fs ts (one 0 [])) mark all
  tables_done G g h gs fs ts r = export_done G g h gs fs ts (r [] export_tokens no_var)

  functions_done : {mark : ℕ} {all : List Lexeme} (G : Type 0) → (h : Heading) (gs : List VariableTree) (fs : List FunctionTree) → G ⊎ Here limit mark (last_function fs) export_tokens → FunctionsOn limit mark all G h gs fs export_tokens
      → High (module_of h gs fs [] (one 0 [])) mark all
  functions_done {mark = mark} G h gs fs (inl g) r = tables_done (G ⊎ (⊥ ⊎ Here limit mark (last_function fs) export_tokens)) (inl g) h gs fs [] (r [] export_tokens no_functions)
  functions_done {mark = mark} G h gs fs (inr g) r = tables_done (G ⊎ (⊥ ⊎ Here limit mark (last_function fs) export_tokens)) (inr (inr g)) h gs fs [] (r [] export_tokens no_functions)

  globals_done : {mark : ℕ} {all : List Lexeme} (G : Type 0) → G → (h : Heading) (gs : List VariableTree) → GlobalsOn limit mark all G false h gs export_tokens → High (module_of h gs [] [] (one 0 [])) mark all
  globals_done G g h gs r = functions_done G h gs [] (inl g) (r [] export_tokens no_var)

  in_globals_done : {mark : ℕ} {all : List Lexeme} (G : Type 0) → G → (h : Heading) (gs : List VariableTree) → GlobalsOn limit mark all G true h gs (a_semicolon ∷ export_tokens) → High (module_of h gs [] [] (one 0 [])) mark all
  in_globals_done G g h gs r = functions_done G h gs [] (inl g) (r [] export_tokens (an_end (written (here refl)) no_var))

  ends_with : (n : ℕ) (front tokens : List Lexeme) (m : ModuleTree) (O : Type 0) → Quiet tokens → (O → may_miss tokens ≡ true) → High m (n + length tokens) (front ++ tokens) → Finish n front O
  ends_with n front tokens m O q miss h = record { ending = record { tokens = tokens; found = m; whole = h }; quiet = q; misses = miss }

  -- ---- once such a node was read

  abbrev Read : Type 0
  Read = Unit {0}

  marks_finish : (ps : List Lexeme) (ds : List ParamTree) (k : List ParamTree → State) (n : ℕ) (front : List Lexeme) → ((es : List ParamTree) (i : ℕ) (on : List Lexeme) → Promise Read i on (k es) → Finish i on (Open (k es)))
      → Promise Read n front (at_marks ps ds k) → Finish n front (Open (at_marks ps ds k))
  marks_finish [] ds k n front go h = go ds n front (λ ys mark is q m. let r = h ys mark is q m in r.1 [] ys no_marks)
  marks_finish (p ∷ ps) ds k n front go h =
      let on : List Lexeme = front ++ mark_tokens p [] in
      let same : (ys : List Lexeme) → on ++ ys ≡ front ++ mark_tokens p ys = λ ys. append_assoc front (mark_tokens p []) ys in
      let found : Finish (n + 6) on (Open (at_marks ps (ds ++ int_mark p ∷ []) k)) = marks_finish ps (ds ++ int_mark p ∷ []) k (n + 6) on go
      (λ ys mark is q m. subst (λ (xs : List Lexeme). Carries limit mark xs Read (at_marks ps (ds ++ int_mark p ∷ []) k) ys) (sym (same ys))
      (let r = h (mark_tokens p ys) mark (let count : mark ≡ n + length (mark_tokens p ys) = omega arith in count) refl (λ o. refl) in
      (r.0, λ es zs x. r.1 (int_mark p ∷ es) zs (an_int_mark (here (refl, bytes_same p.text)) (here refl) (here (refl, bytes_same p.text)) (here refl) (here (refl, refl)) (written (here refl)) x)))) in
      let rest = found.ending in
      let count : (n + 6) + length rest.tokens ≡ n + length (mark_tokens p rest.tokens) = omega arith in
      ends_with n front (mark_tokens p rest.tokens) rest.found Unit refl (λ o. refl) (moved_high count (same rest.tokens) rest.whole)

  mutual
    finish : (s : State) (n : ℕ) (front : List Lexeme) → Promise Read n front s → Finish n front (Open s)
    finish (closes c q s) n front h = after_token n front (c ≡ close_brace) (sample c) q (λ e. ap (λ d. may_miss_before d true) e)
        (finish_step s (suc n) (front ++ sample c ∷ []) (λ ys mark is. moved_step mark Read s front (sample c) ys (h (sample c ∷ ys) mark (counted_on n mark (sample c) ys is) q (λ e. ap (λ d. may_miss_before d true) e) (sample c) ys (here refl))))
    finish (at_expr p k) n front h =
        let t : Lexeme = a_sample_number in
        after_token n front ⊥ t refl no (ending_of (finish (k (literal 0 (pos 0))) (suc n) (front ++ t ∷ [])
        (λ ys mark is q m. moved mark Read (k (literal 0 (pos 0))) front t ys (mono limit mark (front ++ t ∷ ys) (λ u. inl u) (k (literal 0 (pos 0))) ys
        (h (t ∷ ys) mark (counted_on n mark t ys is) refl no (literal 0 (pos 0)) ys (an_operand (a_literal (here refl))) (quiet_stops p ys q))))))
    finish (after_minus v k) n front h =
        let t : Lexeme = sample_of a_nonzero in
        after_token n front ⊥ t refl no (ending_of (finish (k (literal v.at (neg_ℤ (pos 1)))) (suc n) (front ++ t ∷ [])
        (λ ys mark is q m. moved mark Read (k (literal v.at (neg_ℤ (pos 1)))) front t ys (mono limit mark (front ++ t ∷ ys) (λ u. inl u) (k (literal v.at (neg_ℤ (pos 1)))) ys
        (let r = h (t ∷ ys) mark (counted_on n mark t ys is) refl no in r.1 (literal v.at (neg_ℤ (pos 1))) ys (a_negative (here r.0) (here (refl, refl))))))))
    finish (after_name p v k) n front h = other_miss no (finish (k (variable v.at v.text)) n front
        (λ ys mark is q m. mono limit mark (front ++ ys) (λ u. inl u) (k (variable v.at v.text)) ys (let r = h ys mark is q no in r.1 (variable v.at v.text) ys (an_operand (a_variable (here r.0))) (quiet_stops p ys q))))
    finish (after_index p v i k) n front h = other_miss no (finish (k (element v.at v.text i)) n front
        (λ ys mark is q m. mono limit mark (front ++ ys) (λ u. inl u) (k (element v.at v.text i)) ys (let r = h ys mark is q no in r.3 (element v.at v.text i) ys (an_operand (an_element (here r.1) r.2)) (λ a. inr a) (quiet_stops p ys q))))
    finish (after_expr p e k) n front h = other_miss no (finish (k e) n front
        (λ ys mark is q m. mono limit mark (front ++ ys) (λ u. inl u) (k e) ys (let r = h ys mark is q no in r.5 e ys (at_level r.2 r.3) (high_at_level limit mark (front ++ ys) r.2 r.3) (quiet_stops p ys q))))
    finish (at_arguments k) n front h =
        let t : Lexeme = sample close_paren in
        after_token n front ⊥ t refl no (ending_of (finish (k no_expr) (suc n) (front ++ t ∷ [])
        (λ ys mark is q m. moved mark Read (k no_expr) front t ys (mono limit mark (front ++ t ∷ ys) (λ u. inl u) (k no_expr) ys (h (t ∷ ys) mark (counted_on n mark t ys is) refl no no_expr ys (no_argument (here refl)))))))
    finish (in_rest fs k) n front h = other_miss no (finish (k fs) n front (λ ys mark is q m. mono limit mark (front ++ ys) (λ u. inl u) (k fs) ys (let r = h ys mark is q no in r.1 no_expr ys no_further (quiet_stops 0 ys q))))
    finish (ends s) n front h =
        let start = h [] n (let count : n ≡ n + 0 = omega arith in count) tt no in
        other_miss no (finish s n front (λ ys mark is q m. let r = h ys mark is q no in r.1 ys (missing (m start.0))))
    finish (ends_do s) n front h =
        let start = h [] n (let count : n ≡ n + 0 = omega arith in count) tt no in
        other_miss no (finish s n front (λ ys mark is q m. let r = h ys mark is q no in r.1 ys (do_missing (miss_no_semicolon ys (m start.0)))))
    finish (at_stmt k) n front h =
        let t : Lexeme = a_semicolon in
        after_token n front ⊥ t refl no (ending_of (finish (k (empty 0)) (suc n) (front ++ t ∷ [])
        (λ ys mark is q m. moved mark Read (k (empty 0)) front t ys (mono limit mark (front ++ t ∷ ys) (λ u. inl u) (k (empty 0)) ys (let r = h (t ∷ ys) mark (counted_on n mark t ys is) refl no in r.2 (empty 0) ys (an_empty (here refl)))))))
    finish (after_stmt_name v k) n front h =
        let t : Lexeme = a_semicolon in
        after_token n front ⊥ t refl no (ending_of (finish (k (plain v.at (variable v.at v.text))) (suc n) (front ++ t ∷ [])
        (λ ys mark is q m. moved mark Read (k (plain v.at (variable v.at v.text))) front t ys (mono limit mark (front ++ t ∷ ys) (λ u. inl u) (k (plain v.at (variable v.at v.text))) ys
        (let r = h (t ∷ ys) mark (counted_on n mark t ys is) refl no in r.3 (plain v.at (variable v.at v.text)) ys (a_plain (an_operand (a_variable (here r.0))) (written (here refl))))))))
    finish (at_option c q b k) n front h = after_token n front ⊥ (sample c) q no
        (finish_step (k None) (suc n) (front ++ sample c ∷ []) (λ ys mark is. moved_step mark Read (k None) front (sample c) ys (mono_step limit mark (front ++ sample c ∷ ys) (λ u. inl u) (k None) ys (h (sample c ∷ ys) mark (counted_on n mark (sample c) ys is) q no None (sample c) (sample c ∷ ys) ys absent (here refl)))))
    finish (at_return k) n front h =
        let t : Lexeme = a_semicolon in
        after_token n front ⊥ t refl no (ending_of (finish (k None) (suc n) (front ++ t ∷ [])
        (λ ys mark is q m. moved mark Read (k None) front t ys (mono limit mark (front ++ t ∷ ys) (λ u. inl u) (k None) ys (let r = h (t ∷ ys) mark (counted_on n mark t ys is) refl no in r.1 None ys (no_value (written (here refl))))))))
    finish (at_target k) n front h =
        let t : Lexeme = a_semicolon in
        after_token n front ⊥ t refl no (ending_of (finish (k None) (suc n) (front ++ t ∷ [])
        (λ ys mark is q m. moved mark Read (k None) front t ys (let r = h (t ∷ ys) mark (counted_on n mark t ys is) refl no in r.1 None ys (no_label (written (here refl)))))))
    finish (after_arm at c s k) n front h = finish (k (if_only at c s)) n front (λ ys mark is q m. let r = h ys mark is q m in r.1 (quiet_no_else ys q))
    finish (after_body b s) n front h =
        let t : Lexeme = sample while_word in
        after_token n front Unit t refl (λ o. refl) (finish_step s (suc n) (front ++ t ∷ []) (λ ys mark is. moved_step mark Read s front t ys (mono_step limit mark (front ++ t ∷ ys) (λ u. inl u) s ys (h (t ∷ ys) mark (counted_on n mark t ys is) refl (λ o. refl) t ys (here refl)))))
    finish (at_stmts rs k) n front h =
        let t : Lexeme = a_brace in
        after_token n front Unit t refl (λ o. refl) (finish_step (k rs) (suc n) (front ++ t ∷ [])
        (λ ys mark is. moved_step mark Read (k rs) front t ys (mono_step limit mark (front ++ t ∷ ys) (λ u. inl u) (k rs) ys (h (t ∷ ys) mark (counted_on n mark t ys is) refl (λ o. refl) no_stmt t (t ∷ ys) ys no_stmts (here refl)))))
    finish (at_clauses k) n front h =
        let t : Lexeme = a_brace in
        after_token n front ⊥ t refl no (finish_step (k no_clause) (suc n) (front ++ t ∷ [])
        (λ ys mark is. moved_step mark Read (k no_clause) front t ys (mono_step limit mark (front ++ t ∷ ys) (λ u. inl u) (k no_clause) ys (h (t ∷ ys) mark (counted_on n mark t ys is) refl no no_clause t (t ∷ ys) ys no_clauses (here refl)))))
    finish (in_case v rs k) n front h =
        let t : Lexeme = a_brace in
        after_token n front Unit t refl (λ o. refl) (finish_step (k (one_clause (Some v) rs no_clause)) (suc n) (front ++ t ∷ [])
        (λ ys mark is. moved_step mark Read (k (one_clause (Some v) rs no_clause)) front t ys (mono_step limit mark (front ++ t ∷ ys) (λ u. inl u) (k (one_clause (Some v) rs no_clause)) ys
        (h (t ∷ ys) mark (counted_on n mark t ys is) refl (λ o. refl) no_stmt no_clause t (t ∷ ys) (t ∷ ys) ys no_stmts no_clauses (here refl)))))
    finish (at_literal d k) n front h =
        let t : Lexeme = a_sample_number in
        after_token n front ⊥ t refl no (ending_of (finish (k (number (pos 0))) (suc n) (front ++ t ∷ []) (λ ys mark is q m. moved mark Read (k (number (pos 0))) front t ys (h (t ∷ ys) mark (counted_on n mark t ys is) refl no (number (pos 0)) ys (positive (here refl))))))
    finish (after_sign d v k) n front h =
        let t : Lexeme = sample_of a_nonzero in
        after_token n front ⊥ t refl no (ending_of (finish (k (number (neg_ℤ (pos 1)))) (suc n) (front ++ t ∷ [])
        (λ ys mark is q m. moved mark Read (k (number (neg_ℤ (pos 1)))) front t ys (let r = h (t ∷ ys) mark (counted_on n mark t ys is) refl no in r.1 (number (neg_ℤ (pos 1))) ys (negative (here r.0) (here (refl, refl)))))))
    finish (at_init k) n front h =
        let t : Lexeme = a_sample_number in
        after_token n front ⊥ t refl no (ending_of (finish (k (number (pos 0))) (suc n) (front ++ t ∷ []) (λ ys mark is q m. moved mark Read (k (number (pos 0))) front t ys (h (t ∷ ys) mark (counted_on n mark t ys is) refl no (number (pos 0)) ys (of_literal (positive (here refl)))))))
    finish (after_member f p k) n front h = other_miss no (finish (k (member f.text p.text)) n front (λ ys mark is q m. h ys mark is q no (member f.text p.text) ys a_member))
    finish (in_names c q ns k) n front h = after_token n front ⊥ (sample c) q no
        (finish_step (k ns) (suc n) (front ++ sample c ∷ []) (λ ys mark is. moved_step mark Read (k ns) front (sample c) ys (h (sample c ∷ ys) mark (counted_on n mark (sample c) ys is) q no [] (sample c) (sample c ∷ ys) ys no_names (here refl))))
    finish (at_marks ps ds k) n front h = marks_finish ps ds k n front (λ es i on r. finish (k es) i on r) h
    finish (at_locals ls k) n front h = finish (k ls) n front (λ ys mark is q m. let r = h ys mark is q m in r.1 [] ys no_var)
    finish (in_locals ls k) n front h =
        let start = h [] n (let count : n ≡ n + 0 = omega arith in count) tt no in
        other_miss no (finish (k ls) n front (λ ys mark is q m. let r = h ys mark is q no in r.1 [] ys (an_end (missing (m (start.0 ls))) no_var)))
    finish (may_comma k s) n front h = other_miss no (finish s n front (λ ys mark is q m. let r = h ys mark is q no in r.1))
    finish (at_use h) n front r =
        let tokens : List Lexeme = sample directive ∷ a_semicolon ∷ export_tokens in
        ends_with n front tokens _ ⊥ refl no (globals_done Read tt h [] (r tokens (n + length tokens) refl refl no (sample directive) (a_semicolon ∷ export_tokens) export_tokens (here refl) (written (here refl))))
    finish (at_globals h gs) n front r = ends_with n front export_tokens _ Unit refl (λ o. refl) (globals_done Read tt h gs (r export_tokens (n + length export_tokens) refl refl (λ o. refl)))
    finish (at_value h gs v) n front r =
        let tokens : List Lexeme = a_sample_number ∷ a_semicolon ∷ export_tokens in
        let p = r tokens (n + length tokens) refl refl no in
        ends_with n front tokens _ ⊥ refl no (in_globals_done Read tt h (gs ++ variable_of v (number (pos 0)) ∷ []) (p.0 (number (pos 0)) (a_semicolon ∷ export_tokens) (of_literal (positive (here refl)))))
    finish (in_globals h gs) n front r = ends_with n front (a_semicolon ∷ export_tokens) _ ⊥ refl no (in_globals_done Read tt h gs (r (a_semicolon ∷ export_tokens) (n + length (a_semicolon ∷ export_tokens)) refl refl no))
    finish (at_functions h gs fs) n front r = ends_with n front export_tokens _ ⊥ refl no (functions_done Read h gs fs (inl tt) (r export_tokens (n + length export_tokens) refl refl no))
    finish (at_tables h gs fs ts) n front r = ends_with n front export_tokens _ Unit refl (λ o. refl) (tables_done Read tt h gs fs ts (r export_tokens (n + length export_tokens) refl refl (λ o. refl)))
    finish (in_tables h gs fs ts) n front r = ends_with n front (a_semicolon ∷ export_tokens) _ ⊥ refl no
        (export_done Read tt h gs fs ts (r (a_semicolon ∷ export_tokens) (n + length (a_semicolon ∷ export_tokens)) refl refl no [] export_tokens (an_end (written (here refl)) no_var)))
    finish (at_export h gs fs ts) n front r =
        let rest : List Lexeme = an_export ∷ a_semicolon ∷ a_brace ∷ [] in
        let f = r rest (n + length rest) refl refl no (one 0 []) a_brace (a_brace ∷ []) [] refl (export_one (here refl) (written (here refl))) (here refl) nothing_more in
        ends_with n front rest (module_of h gs fs ts (one 0 [])) ⊥ refl no (f.0, f.1 (inl tt))
    finish (at_exports es k) n front h =
        let t : Lexeme = a_brace in
        after_token n front ⊥ t refl no (finish_step (k es) (suc n) (front ++ t ∷ []) (λ ys mark is. moved_step mark Read (k es) front t ys (h (t ∷ ys) mark (counted_on n mark t ys is) refl no [] t (t ∷ ys) ys no_export (here refl))))
    finish (in_exports es k) n front h =
        let t : Lexeme = a_brace in
        after_token n front ⊥ t refl no (finish_step (k es) (suc n) (front ++ t ∷ []) (λ ys mark is. moved_step mark Read (k es) front t ys (h (t ∷ ys) mark (counted_on n mark t ys is) refl no [] t (t ∷ ys) ys no_export (here refl))))
    finish (at_end true v) n front h = let f = h [] (n + 0) refl tt no nothing_more in ends_with n front [] v ⊥ tt no (f.0, f.1 (inl tt))
    finish (at_end false v) n front h = let f = h [] (n + 0) refl tt no refl in ends_with n front [] v ⊥ tt no (f.0, f.1 (inl tt))

    finish_step : (s : Step) (n : ℕ) (front : List Lexeme) → PromiseStep Read n front s → Ending n front
    finish_step (goes s) n front h = ending_of (finish s n front (λ ys mark is q m. h ys mark is))
    finish_step (expects w k) n front h =
        let t : Lexeme = sample_of w in
        shifted n front t (finish_step (k t) (suc n) (front ++ t ∷ []) (λ ys mark is. moved_step mark Read (k t) front t ys (h (t ∷ ys) mark (counted_on n mark t ys is) t ys (here (sample_meets w)))))
    finish_step (either w d q k s) n front h =
        shifted n front (sample d) (finish_step s (suc n) (front ++ sample d ∷ []) (λ ys mark is. moved_step mark Read s front (sample d) ys (let r = h (sample d ∷ ys) mark (counted_on n mark (sample d) ys is) in r.1 (sample d) ys (here refl))))
    finish_step (refuses f back) n front h = absurd (h [] n (let count : n ≡ n + 0 = omega arith in count))

  -- ---- where the peak is above the limit

  low_peak : {A : Type 0} → limit < 0 → A
  low_peak lt = absurd (omega arith)

  at_mark : (mark : ℕ) (ys : List Lexeme) → mark ≡ 0 + length ys → mark ≤ length ys
  at_mark mark ys is = omega arith

  past_mark : (mark : ℕ) (t : Lexeme) (ys : List Lexeme) → mark ≡ 1 + length ys → mark ≤ length (t ∷ ys)
  past_mark mark t ys is = omega arith

  high_finish : (s : State) (front : List Lexeme) → Promise ⊥ 0 front s → limit < peak s → Finish 0 front (Open s)
  high_finish (after_name p v k) front h lt = elim (max_split limit 1 (peak (k (variable v.at v.text))) lt) [
    | inl above ↦ other_miss no (finish (k (variable v.at v.text)) 0 front
        (λ ys mark is q m. mono limit mark (front ++ ys) (λ u. inr (above, at_mark mark ys is)) (k (variable v.at v.text)) ys (let r = h ys mark is q no in r.1 (variable v.at v.text) ys (an_operand (a_variable (here r.0))) (quiet_stops p ys q))))
    | inr on ↦ other_miss no (high_finish (k (variable v.at v.text)) front
        (λ ys mark is q m. mono limit mark (front ++ ys) (λ u. inl u) (k (variable v.at v.text)) ys (let r = h ys mark is q no in r.1 (variable v.at v.text) ys (an_operand (a_variable (here r.0))) (quiet_stops p ys q))) on)
  ]
  high_finish (after_index p v i k) front h lt = elim (max_split limit (height (element v.at v.text i)) (peak (k (element v.at v.text i))) lt) [
    | inl above ↦ other_miss no (finish (k (element v.at v.text i)) 0 front
        (λ ys mark is q m. mono limit mark (front ++ ys) (λ u. inr (inl (above, at_mark mark ys is))) (k (element v.at v.text i)) ys (let r = h ys mark is q no in r.3 (element v.at v.text i) ys (an_operand (an_element (here r.1) r.2)) (λ a. inr a) (quiet_stops p ys q))))
    | inr on ↦ other_miss no (high_finish (k (element v.at v.text i)) front
        (λ ys mark is q m. mono limit mark (front ++ ys) (λ u. inl u) (k (element v.at v.text i)) ys (let r = h ys mark is q no in r.3 (element v.at v.text i) ys (an_operand (an_element (here r.1) r.2)) (λ a. inr a) (quiet_stops p ys q))) on)
  ]
  high_finish (after_expr p e k) front h lt = elim (max_split limit (height e) (peak (k e)) lt) [
    | inl above ↦ other_miss no (finish (k e) 0 front
        (λ ys mark is q m. (let r = h ys mark is q no in mono limit mark (front ++ ys) (λ u. inr (here_expr mark (at_level r.2 r.3) (above, at_mark mark ys is))) (k e) ys (r.5 e ys (at_level r.2 r.3) (high_at_level limit mark (front ++ ys) r.2 r.3) (quiet_stops p ys q)))))
    | inr on ↦ other_miss no (high_finish (k e) front
        (λ ys mark is q m. mono limit mark (front ++ ys) (λ u. inl u) (k e) ys (let r = h ys mark is q no in r.5 e ys (at_level r.2 r.3) (high_at_level limit mark (front ++ ys) r.2 r.3) (quiet_stops p ys q))) on)
  ]
  high_finish (in_rest fs k) front h lt = other_miss no (high_finish (k fs) front (λ ys mark is q m. mono limit mark (front ++ ys) (λ u. inl u) (k fs) ys (let r = h ys mark is q no in r.1 no_expr ys no_further (quiet_stops 0 ys q))) lt)
  high_finish (ends s) front h lt =
      let start = h [] 0 refl tt no in
      other_miss no (high_finish s front (λ ys mark is q m. let r = h ys mark is q no in r.1 ys (missing (m start.0))) lt)
  high_finish (ends_do s) front h lt =
      let start = h [] 0 refl tt no in
      other_miss no (high_finish s front (λ ys mark is q m. let r = h ys mark is q no in r.1 ys (do_missing (miss_no_semicolon ys (m start.0)))) lt)
  high_finish (after_stmt_name v k) front h lt =
      let t : Lexeme = a_semicolon in
      let start = h [] 0 refl tt no in
      elim (max_split limit 1 (peak (k (plain v.at (variable v.at v.text)))) lt) [
        | inl above ↦ after_token 0 front ⊥ t refl no (ending_of (finish (k (plain v.at (variable v.at v.text))) 1 (front ++ t ∷ [])
            (λ ys mark is q m. moved mark Read (k (plain v.at (variable v.at v.text))) front t ys (mono limit mark (front ++ t ∷ ys) (λ u. inr (inr (above, past_mark mark t ys is))) (k (plain v.at (variable v.at v.text))) ys
            (let r = h (t ∷ ys) mark (counted_on 0 mark t ys is) refl no in r.3 (plain v.at (variable v.at v.text)) ys (a_plain (an_operand (a_variable (here r.0))) (written (here refl))))))))
        | inr on ↦ other_miss no (high_finish (k (plain v.at (variable v.at v.text))) front
            (λ ys mark is q m. mono limit mark (front ++ ys) (λ u. inl u) (k (plain v.at (variable v.at v.text))) ys
            (let r = h ys mark is q no in r.3 (plain v.at (variable v.at v.text)) ys (a_plain (an_operand (a_variable (here r.0))) (missing (m (start.1 (plain v.at (variable v.at v.text)))))))) on)
      ]
  high_finish (at_return k) front h lt =
      let start = h [] 0 refl tt no in
      other_miss no (high_finish (k None) front (λ ys mark is q m. mono limit mark (front ++ ys) (λ u. inl u) (k None) ys (let r = h ys mark is q no in r.1 None ys (no_value (missing (m (start.0 None)))))) lt)
  high_finish (at_target k) front h lt =
      let start = h [] 0 refl tt no in
      other_miss no (high_finish (k None) front (λ ys mark is q m. let r = h ys mark is q no in r.1 None ys (no_label (missing (m (start.0 None))))) lt)
  high_finish (after_arm at c s k) front h lt = high_finish (k (if_only at c s)) front (λ ys mark is q m. let r = h ys mark is q m in r.1 (quiet_no_else ys q)) lt
  high_finish (after_body b s) front h lt =
      let t : Lexeme = sample while_word in
      after_token 0 front Unit t refl (λ o. refl) (finish_step s 1 (front ++ t ∷ [])
      (λ ys mark is. moved_step mark Read s front t ys (mono_step limit mark (front ++ t ∷ ys) (λ u. inr (lt, past_mark mark t ys is)) s ys (h (t ∷ ys) mark (counted_on 0 mark t ys is) refl (λ o. refl) t ys (here refl)))))
  high_finish (at_stmts rs k) front h lt =
      let t : Lexeme = a_brace in
      after_token 0 front Unit t refl (λ o. refl) (finish_step (k rs) 1 (front ++ t ∷ [])
      (λ ys mark is. moved_step mark Read (k rs) front t ys (mono_step limit mark (front ++ t ∷ ys) (λ u. inr (inr (lt, past_mark mark t ys is))) (k rs) ys (h (t ∷ ys) mark (counted_on 0 mark t ys is) refl (λ o. refl) no_stmt t (t ∷ ys) ys no_stmts (here refl)))))
  high_finish (in_case v rs k) front h lt =
      let t : Lexeme = a_brace in
      after_token 0 front Unit t refl (λ o. refl) (finish_step (k (one_clause (Some v) rs no_clause)) 1 (front ++ t ∷ [])
      (λ ys mark is. moved_step mark Read (k (one_clause (Some v) rs no_clause)) front t ys (mono_step limit mark (front ++ t ∷ ys) (λ u. inr (inr (lt, past_mark mark t ys is))) (k (one_clause (Some v) rs no_clause)) ys
      (h (t ∷ ys) mark (counted_on 0 mark t ys is) refl (λ o. refl) no_stmt no_clause t (t ∷ ys) (t ∷ ys) ys no_stmts no_clauses (here refl)))))
  high_finish (after_member f p k) front h lt = other_miss no (high_finish (k (member f.text p.text)) front (λ ys mark is q m. h ys mark is q no (member f.text p.text) ys a_member) lt)
  high_finish (at_marks [] ds k) front h lt = high_finish (k ds) front (λ ys mark is q m. let r = h ys mark is q m in r.1 [] ys no_marks) lt
  high_finish (at_locals ls k) front h lt = high_finish (k ls) front (λ ys mark is q m. let r = h ys mark is q m in r.1 [] ys no_var) lt
  high_finish (in_locals ls k) front h lt =
      let start = h [] 0 refl tt no in
      other_miss no (high_finish (k ls) front (λ ys mark is q m. let r = h ys mark is q no in r.1 [] ys (an_end (missing (m (start.0 ls))) no_var)) lt)
  high_finish (may_comma k s) front h lt = other_miss no (high_finish s front (λ ys mark is q m. let r = h ys mark is q no in r.1) lt)
  high_finish (at_functions h gs fs) front r lt = ends_with 0 front export_tokens _ ⊥ refl no
      (functions_done ⊥ h gs fs (inr (lt, at_mark (length export_tokens) export_tokens refl)) (r export_tokens (length export_tokens) refl refl no))
  high_finish (at_end true v) front h lt = let f = h [] 0 refl tt no nothing_more in ends_with 0 front [] v ⊥ tt no (f.0, f.1 (inr (lt, at_mark 0 [] refl)))
  high_finish (at_end false v) front h lt = let f = h [] 0 refl tt no refl in ends_with 0 front [] v ⊥ tt no (f.0, f.1 (inr (lt, at_mark 0 [] refl)))
  high_finish _ front h lt = low_peak lt

  pub high_ending : (s : Step) (front : List Lexeme) → ((ys : List Lexeme) (mark : ℕ) → mark ≡ 0 + length ys → Moves limit mark (front ++ ys) ⊥ s ys) → limit < step_peak s → Ending 0 front
  high_ending (goes s) front h lt = ending_of (high_finish s front (λ ys mark is q m. h ys mark is) lt)
  high_ending _ front h lt = low_peak lt
