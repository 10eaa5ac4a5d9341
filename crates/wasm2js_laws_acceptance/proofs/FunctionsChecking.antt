-- Bodies of helpers as data, and a test that computes: where it holds, a helper is fine.
use Rattle.std.proofs.Common.{◌≡◌, ℕ, ◌+◌, ◌*◌, ◌^◌, ◌≤◌, ◌<◌, max, Bool, true, false, ◌&&◌, List, [], ◌∷◌, ◌++◌, length, map, Some, inl, inr, refl, ap, subst, arith}
use Rattle.std.specs.Prelude.{is_some, nat_le, nat_lt, bytes_eq, ◌||◌}
use Rattle.std.specs.List.{list_all}
use Rattle.std.proofs.lemmas.Bool.{and_parts}
use Rattle.std.proofs.lemmas.Bool.Decides.{nat_tests}
use Rattle.std.proofs.lemmas.Slice.Eq.{bytes_eq-Decides}
use Rattle.sem_words.specs.declared.js_value.JsOp.{JsOp}
use Rattle.sem_words.specs.declared.js_value.JsOp.TheVariants.{Div, Rem}
use Rattle.asm_types.specs.declared.value_type.ValueType.{ValueType}
use Rattle.asm_types.specs.declared.value_type.ValueType.TheVariants.{Signed, Unsigned, Int, Intish}
use Rattle.asm_types.specs.Types.{is_below}
use Rattle.asm_types.specs.Rows.{row}
use Rattle.wasm_lang.specs.Modules.{WasmModule}
use Rattle.wasm_lang_valid.specs.ModuleRules.{has_memory}
use Rattle.asm_lang.specs.Modules.{Expr, binary, Stmt, if_only, if_else, returns}
use Rattle.asm_laws_print.specs.Spelled.{FitsExpr}
use Rattle.asm_lang_valid.specs.Scope.{is_in, an_int, among_locals, module_meaning, last_gives_value}
use Rattle.asm_lang_valid.specs.Rows.{expr_count, stmt_count}
use Rattle.asm_lang_valid.specs.LimitRows.{expr_marks}
use Rattle.asm_lang_valid.specs.Typing.{Scope, Around, at_top, named, in_a_loop, literal_type, result_of, type_of, is_call}
use Rattle.asm_lang_valid.specs.Typed.{scope_of}
use Rattle.wasm2js_translation.specs.Names.{Name, spelled}
use Rattle.wasm2js_translation.specs.Words.{Term, read, number, both, flip, sum, product, zeros, compare, choose, byte, whole, Summands, no_more, further, put, guard, write_byte, write_whole, expr, int_of, as_number, signed_number, simple_statement, trap_call, stmts_in}
use Rattle.wasm2js_laws_terms.specs.Sound.{IsInt, IsSound, AreSound, summands_length, some_summands, term_depth}
use Rattle.wasm2js_laws_terms.specs.Laws.{IsFineExpr, IsFine}
use Rattle.wasm2js_laws_terms.proofs.FineExprs.{is_typed_below, signed_fine}
use Rattle.wasm2js_laws_terms.proofs.FineTerms.{number_fine as term_number_fine, term_fine}
use Rattle.wasm2js_laws_terms.proofs.FineActions.{both_true, no_marks, both_marks, simple_fine, trap_fine}
use Rattle.wasm2js_translation.specs.Helpers.{zero_variable, function_of, block_of, when, repeat, gives, sets, first, second, spare}
use Rattle.wasm2js_translation.specs.Modules.{translated}
use Rattle.wasm2js_laws_scopes.specs.Laws.{is_own}
use Rattle.wasm2js_laws_scopes.specs.Provided.{AreInts, HasFixed, HasMemory}
use Rattle.wasm2js_laws_scopes.proofs.Among.{Among, past_params, param_found, local_found}
use Rattle.wasm2js_laws_scopes.proofs.HeadNames.{heads_are_provided, memories_are_provided}
use Rattle.wasm2js_laws_typed.specs.Constructs.{AllFine}
use Rattle.wasm2js_laws_typed.proofs.FineBlocks.{is_higher, all_higher, together}
use Rattle.wasm2js_laws_acceptance.specs.FunctionsFunctions.{IsFineFunction, of_trap}
use Rattle.wasm2js_laws_acceptance.proofs.FunctionsMade.{made_of_fine}
use Rattle.wasm2js_laws_acceptance.proofs.FunctionsReturning.{returned_fine}

-- ---- bodies as data

mutual
  pub data Piece : Type 0 where
    set : Name → Term → Piece
    give : Term → Piece
    in_case : Term → Pieces → Piece
    while_so : Term → Pieces → Piece
    one_of : Term → (first second : Pieces) → Piece
    test : Term → (kind : ℕ) → Piece
    bound : Term → (most kind : ℕ) → Piece
    set_byte : (at : Term) → Term → Piece
    set_word : (at : Term) → Term → Piece
    -- of the two arguments, with their signs or without
    divided : (signed : Bool) → JsOp → Piece

  pub data Pieces : Type 0 where
    done : Pieces
    ◌▸◌ : Piece → Pieces → Pieces

infixr 60 ◌▸◌
abbrev pub divided_value : Bool → JsOp → Expr
divided_value signed op = binary op (as_number signed first (expr first)) (as_number signed second (expr second))

abbrev mutual
  pub stmt_of : Piece → Stmt
  stmt_of (set n t) = sets n t
  stmt_of (give t) = gives t
  stmt_of (in_case t ps) = when t (stmts_of ps)
  stmt_of (while_so t ps) = repeat t (stmts_of ps)
  stmt_of (one_of t ps qs) = if_else (int_of t) (block_of (stmts_of ps)) (block_of (stmts_of qs))
  stmt_of (test t kind) = if_only (int_of t) (trap_call kind)
  stmt_of (bound t most kind) = simple_statement (guard t most kind)
  stmt_of (set_byte at t) = simple_statement (write_byte at t)
  stmt_of (set_word at t) = simple_statement (write_whole at t)
  stmt_of (divided signed op) = returns (Some (signed_number (divided_value signed op)))

  pub stmts_of : Pieces → List Stmt
  stmts_of done = []
  stmts_of (p ▸ ps) = stmt_of p ∷ stmts_of ps

-- ---- how high they are

abbrev mutual
  pub high : Piece → ℕ
  high (set n t) = 4 + 3 * term_depth t
  high (give t) = 1 + (1 + max (3 * term_depth t) 1)
  high (in_case t ps) = 1 + max (3 * term_depth t) (max 1 (highs ps))
  high (while_so t ps) = 1 + max (3 * term_depth t) (max 1 (highs ps))
  high (one_of t ps qs) = 1 + max (3 * term_depth t) (max (max 1 (highs ps)) (max 1 (highs qs)))
  high (test t kind) = 1 + max (3 * term_depth t) 3
  high (bound t most kind) = 4 + 3 * term_depth t
  high (set_byte at t) = 4 + 3 * max (term_depth at) (term_depth t)
  high (set_word at t) = 4 + 3 * max (term_depth at) (term_depth t)
  high (divided signed op) = 10

  pub highs : Pieces → ℕ
  highs done = 0
  highs (p ▸ ps) = max (high p) (highs ps)

-- ---- tests

abbrev pub is_division : JsOp → Bool
is_division Div = true
is_division Rem = true
is_division op = false

-- by the variables, whether there is a memory, and whether the function has a result
module _ (ints : List Name) (mem answers : Bool) where
  abbrev pub is_int : Name → Bool
  is_int n = is_in (spelled n) (map spelled ints)

  abbrev mutual
    pub check : Term → Bool
    check (read n) = is_int n
    check (number z) = is_some (literal_type z)
    check (both op a b) = check a && check b
    check (flip a) = check a
    check (sum a ts) = check a && (check_all ts && (some_summands ts && nat_le (summands_length ts) 1000))
    check (product a b) = check a && check b
    check (zeros a) = check a
    check (compare signed r a b) = check a && check b
    check (choose t a b) = check t && (check a && check b)
    check (byte signed at) = mem && check at
    check (whole at) = mem && check at

    pub check_all : Summands → Bool
    check_all no_more = true
    check_all (further minus t ts) = check t && check_all ts

  abbrev mutual
    pub check_piece : Piece → Bool
    check_piece (set n t) = is_int n && check t
    check_piece (give t) = answers && check t
    check_piece (in_case t ps) = check t && check_pieces ps
    check_piece (while_so t ps) = check t && check_pieces ps
    check_piece (one_of t ps qs) = check t && (check_pieces ps && check_pieces qs)
    check_piece (test t kind) = check t && nat_lt kind 1000
    check_piece (bound t most kind) = check t && (nat_lt most (2 ^ 32) && nat_lt kind 1000)
    check_piece (set_byte at t) = mem && (check at && check t)
    check_piece (set_word at t) = mem && (check at && check t)
    check_piece (divided signed op) = answers && (is_division op && (check first && check second))

    pub check_pieces : Pieces → Bool
    check_pieces done = true
    check_pieces (p ▸ ps) = check_piece p && check_pieces ps

-- ---- numbers

less : (a b : ℕ) → nat_lt a b ≡ true → a < b
less a b h = grind (arith, nat_tests)

at_most : (a b : ℕ) → nat_le a b ≡ true → a ≤ b
at_most a b h = grind (arith, nat_tests)

few_enough : (n : ℕ) → n ≤ 1000 → n ≤ 2 ^ 20
few_enough n h = omega (arith, h)

small_kind : (n : ℕ) → n < 1000 → n < 2 ^ 31
small_kind n h = omega (arith, h)

if_low : {e d k h : ℕ} → e ≤ d → k ≤ h → 1 + max e (max 1 k) ≤ 1 + max d (max 1 h)
if_low p q = omega (arith, p, q)

arms_low : {e d k h m n : ℕ} → e ≤ d → k ≤ h → m ≤ n → 1 + max e (max (max 1 k) (max 1 m)) ≤ 1 + max d (max (max 1 h) (max 1 n))
arms_low p q r = omega (arith, p, q, r)

trap_low : {e d k : ℕ} → e ≤ d → k ≤ 3 → 1 + max e k ≤ 1 + max d 3
trap_low p q = omega (arith, p, q)

left_max : (a b : ℕ) → a ≤ max a b
left_max a b = omega arith

right_max : (a b : ℕ) → b ≤ max a b
right_max a b = omega arith

-- ---- where the test holds

module _ (s : Scope) (ints : List Name) (mem answers : Bool) (given : HasFixed s) (memory : mem ≡ true → HasMemory s) (are : AreInts s ints) (result : answers ≡ true → result_of s ≡ true) where
  int_among : (ns : List Name) → AreInts s ns → (n : Name) → is_in (spelled n) (map spelled ns) ≡ true → IsInt s n
  int_among [] a n h = absurd (cc h)
  int_among (x ∷ ns) a n h = by (bytes_eq (spelled x) (spelled n)) refl h (int_among ns a.1 n)
    where
      by : (t : Bool) → bytes_eq (spelled x) (spelled n) ≡ t → (t || is_in (spelled n) (map spelled ns)) ≡ true → (is_in (spelled n) (map spelled ns) ≡ true → IsInt s n) → IsInt s n
      by true e h f = subst (λ w. named s w ≡ an_int) ((bytes_eq-Decides (spelled x) (spelled n)).0 e) a.0
      by false e h f = f h

  mutual
    sound : (t : Term) → check ints mem answers t ≡ true → IsSound s t
    sound (read n) h = int_among ints are n h
    sound (number z) h = h
    sound (both op a b) h = let p = and_parts _ _ h in (sound a p.0, sound b p.1)
    sound (flip a) h = sound a h
    sound (sum a ts) h =
        let p = and_parts _ _ h in
        let q = and_parts _ _ p.1 in
        let r = and_parts _ _ q.1 in
        (sound a p.0, sound_all ts q.0, r.0, few_enough (summands_length ts) (at_most (summands_length ts) 1000 r.1))
    sound (product a b) h = let p = and_parts _ _ h in (given.multiplies, sound a p.0, sound b p.1)
    sound (zeros a) h = (given.counts, sound a h)
    sound (compare signed r a b) h = let p = and_parts _ _ h in (sound a p.0, sound b p.1)
    sound (choose t a b) h = let p = and_parts _ _ h in let q = and_parts _ _ p.1 in (sound t p.0, sound a q.0, sound b q.1)
    sound (byte true at) h = let p = and_parts _ _ h in ((memory p.0).signed_bytes, sound at p.1)
    sound (byte false at) h = let p = and_parts _ _ h in ((memory p.0).bytes, sound at p.1)
    sound (whole at) h = let p = and_parts _ _ h in ((memory p.0).words, sound at p.1)

    sound_all : (ts : Summands) → check_all ints mem answers ts ≡ true → AreSound s ts
    sound_all no_more h = tt
    sound_all (further minus t ts) h = let p = and_parts _ _ h in (sound t p.0, sound_all ts p.1)

  int_fine : (t : Term) → check ints mem answers t ≡ true → IsFineExpr s (int_of t) Int (3 * term_depth t)
  int_fine t h = (term_fine s t (sound t h)).as_int

  -- ---- quotients and remainders

  abbrev number_type : Bool → ValueType
  number_type true = Signed
  number_type false = Unsigned

  number_fine : (signed : Bool) (t : Term) → check ints mem answers t ≡ true → IsFineExpr s (as_number signed t (expr t)) (number_type signed) (1 + max (3 * term_depth t) 1)
  number_fine true t h = term_number_fine s true t (sound t h) (term_fine s t (sound t h)).as_it_is
  number_fine false t h = term_number_fine s false t (sound t h) (term_fine s t (sound t h)).as_it_is

  or_true : (b : Bool) → (b || true) ≡ true
  or_true true = refl
  or_true false = refl

  are_alike : (signed : Bool) (a b : ValueType) → is_below a (number_type signed) ≡ true → is_below b (number_type signed) ≡ true
      → ((is_below a Signed && is_below b Signed) || (is_below a Unsigned && is_below b Unsigned)) ≡ true
  are_alike true a b p q = rw (p, q) refl
  are_alike false a b p q = rw (p, q) (or_true (is_below a Signed && is_below b Signed))

  module _ (l r : Expr) (a b : ValueType) (free : is_call s l ≡ false) (lt : type_of s l ≡ Some a) (rt : type_of s r ≡ Some b)
      (alike : ((is_below a Signed && is_below b Signed) || (is_below a Unsigned && is_below b Unsigned)) ≡ true) where
    division_type : (op : JsOp) → is_division op ≡ true → type_of s (binary op l r) ≡ Some Intish
    division_type Div h = rw (free, lt, rt) (ap (λ b. row b Intish) alike)
    division_type Rem h = rw (free, lt, rt) (ap (λ b. row b Intish) alike)
    division_type op h = absurd (cc h)

  division_marks : (op : JsOp) (l r : Expr) → is_call s l ≡ false → ((at : ℕ) → expr_marks s at l ≡ []) → ((at : ℕ) → expr_marks s at r ≡ []) → (at : ℕ) → expr_marks s at (binary op l r) ≡ []
  division_marks op l r free a b at = let p = a (at + 1) in let q = b (at + 1 + expr_count l) in rw (free, p, q) refl

  division_fine : (signed : Bool) (op : JsOp) → is_division op ≡ true → check ints mem answers first ≡ true → check ints mem answers second ≡ true → IsFineExpr s (divided_value signed op) Intish 5
  division_fine signed op d h k =
      let l = as_number signed first (expr first) in
      let r = as_number signed second (expr second) in
      let f = number_fine signed first h in
      let g = number_fine signed second k in
      record {
        type = Intish;
        has_type = division_type l r f.type g.type f.no_call f.has_type g.has_type (are_alike signed f.type g.type f.below g.below) op d;
        below = refl;
        no_call = refl;
        printed = is_printed op l r d f.printed g.printed;
        low = both_low f.low g.low;
        no_marks = division_marks op l r f.no_call f.no_marks g.no_marks;
      }
    where
      both_low : {a b : ℕ} → a ≤ 4 → b ≤ 4 → 1 + max a b ≤ 5
      both_low p q = omega (arith, p, q)

      is_printed : (op : JsOp) (l r : Expr) → is_division op ≡ true → FitsExpr l → FitsExpr r → FitsExpr (binary op l r)
      is_printed Div l r h p q = (refl, p, q)
      is_printed Rem l r h p q = (refl, p, q)
      is_printed op l r h p q = absurd (cc h)

  -- ---- statements

  mutual
    piece_fine : (p : Piece) (a : Around) → check_piece ints mem answers p ≡ true → IsFine s a (stmt_of p) (high p)
    piece_fine (set n t) a h = let p = and_parts _ _ h in simple_fine s a (put n t) (int_among ints are n p.0, sound t p.1)
    piece_fine (give t) a h = let p = and_parts _ _ h in returned_fine s a (signed_number (expr t)) _ (result p.0) (signed_fine s (term_fine s t (sound t p.1)).as_it_is)
    piece_fine (in_case t ps) a h =
        let p = and_parts _ _ h in
        let e = int_fine t p.0 in
        let g = together s a (highs ps) (stmts_of ps) (pieces_fine ps a p.1) in
        record {
          is_typed = both_true _ _ (is_typed_below s e) g.are_typed;
          printed = (e.printed, g.printed);
          low = if_low e.low g.low;
          marks = λ at. both_marks (expr_marks s (at + 1) (int_of t)) _ (no_marks (expr_marks s (at + 1) (int_of t)) (e.no_marks (at + 1))) (g.marks (at + 1 + expr_count (int_of t) + 1));
        }
    piece_fine (while_so t ps) a h =
        let p = and_parts _ _ h in
        let e = int_fine t p.0 in
        let g = together s (in_a_loop a) (highs ps) (stmts_of ps) (pieces_fine ps (in_a_loop a) p.1) in
        record {
          is_typed = both_true _ _ (is_typed_below s e) g.are_typed;
          printed = (e.printed, g.printed);
          low = if_low e.low g.low;
          marks = λ at. both_marks (expr_marks s (at + 1) (int_of t)) _ (no_marks (expr_marks s (at + 1) (int_of t)) (e.no_marks (at + 1))) (g.marks (at + 1 + expr_count (int_of t) + 1));
        }
    piece_fine (one_of t ps qs) a h =
        let p = and_parts _ _ h in
        let q = and_parts _ _ p.1 in
        let e = int_fine t p.0 in
        let f = together s a (highs ps) (stmts_of ps) (pieces_fine ps a q.0) in
        let g = together s a (highs qs) (stmts_of qs) (pieces_fine qs a q.1) in
        record {
          is_typed = both_true _ _ (both_true _ _ (is_typed_below s e) f.are_typed) g.are_typed;
          printed = (e.printed, refl, f.printed, g.printed);
          low = arms_low e.low f.low g.low;
          marks = λ at.
              both_marks (expr_marks s (at + 1) (int_of t)) _ (no_marks (expr_marks s (at + 1) (int_of t)) (e.no_marks (at + 1)))
              (both_marks _ _ (f.marks (at + 1 + expr_count (int_of t) + 1)) (g.marks (at + 1 + expr_count (int_of t) + stmt_count (block_of (stmts_of ps)) + 1)));
        }
    piece_fine (test t kind) a h =
        let p = and_parts _ _ h in
        let e = int_fine t p.0 in
        let g = trap_fine s a kind given.traps (small_kind kind (less kind 1000 p.1)) in
        record {
          is_typed = both_true _ _ (is_typed_below s e) g.is_typed;
          printed = (e.printed, g.printed);
          low = trap_low e.low g.low;
          marks = λ at. both_marks (expr_marks s (at + 1) (int_of t)) _ (no_marks (expr_marks s (at + 1) (int_of t)) (e.no_marks (at + 1))) (g.marks (at + 1 + expr_count (int_of t)));
        }
    piece_fine (bound t most kind) a h =
        let p = and_parts _ _ h in
        let q = and_parts _ _ p.1 in
        simple_fine s a (guard t most kind) (sound t p.0, less most (2 ^ 32) q.0, (given.traps, small_kind kind (less kind 1000 q.1)))
    piece_fine (set_byte at t) a h = let p = and_parts _ _ h in let q = and_parts _ _ p.1 in simple_fine s a (write_byte at t) ((memory p.0).bytes, sound at q.0, sound t q.1)
    piece_fine (set_word at t) a h = let p = and_parts _ _ h in let q = and_parts _ _ p.1 in simple_fine s a (write_whole at t) ((memory p.0).words, sound at q.0, sound t q.1)
    piece_fine (divided signed op) a h =
        let p = and_parts _ _ h in
        let q = and_parts _ _ p.1 in
        let r = and_parts _ _ q.1 in
        is_higher s a _ 7 10 (omega arith) (returned_fine s a (signed_number (divided_value signed op)) 6 (result p.0) (signed_fine s (division_fine signed op q.0 r.0 r.1)))

    pieces_fine : (ps : Pieces) (a : Around) → check_pieces ints mem answers ps ≡ true → AllFine s a (highs ps) (stmts_of ps)
    pieces_fine done a h = tt
    pieces_fine (p ▸ ps) a h =
        let q = and_parts _ _ h in
        (is_higher s a _ (high p) _ (left_max (high p) (highs ps)) (piece_fine p a q.0), all_higher s a (highs ps) _ _ (right_max (high p) (highs ps)) (pieces_fine ps a q.1))

-- ---- a function of a translated module with such a body

module _ (w : WasmModule) (name : Name) (ps ls : List Name) (ss : List Stmt) where
  abbrev here : Scope
  here = scope_of (translated w) (function_of name ps ls ss)

  params_ints : (qs : List Name) → ((n : Name) → Among n qs → Among n ps) → AreInts here qs
  params_ints [] f = tt
  params_ints (q ∷ qs) f =
      (param_found ps q (among_locals (map zero_variable ls) (spelled q) (module_meaning (translated w) (spelled q))) (f q (inl refl)), params_ints qs (λ n h. f n (inr h)))

  locals_ints : (qs : List Name) → ((n : Name) → Among n qs → Among n ls) → AreInts here qs
  locals_ints [] f = tt
  locals_ints (q ∷ qs) f =
      (past_params ps (spelled q) (among_locals (map zero_variable ls) (spelled q) (module_meaning (translated w) (spelled q))) (local_found ls q (module_meaning (translated w) (spelled q)) (f q (inl refl))), locals_ints qs (λ n h. f n (inr h)))

  ints_join : (xs ys : List Name) → AreInts here xs → AreInts here ys → AreInts here (xs ++ ys)
  ints_join [] ys h k = k
  ints_join (x ∷ xs) ys h k = (h.0, ints_join xs ys h.1 k)

  pub params_are : AreInts here ps
  params_are = params_ints ps (λ n h. h)

  pub locals_are : AreInts here ls
  locals_are = locals_ints ls (λ n h. h)

abbrev pub variables : (ps ls : List Name) → List Name
variables ps ls = ps ++ (ls ++ spare ∷ [])

abbrev pub answers : Pieces → Bool
answers body = last_gives_value (stmts_in (stmts_of body))

pub checked : (w : WasmModule) (mem : Bool) → (mem ≡ true → has_memory w ≡ true) → (name : Name) (ps ls : List Name) (body : Pieces) → list_all is_own ps ≡ true → list_all is_own ls ≡ true
    → length ps ≤ 17 → length ls ≤ 2 → nat_le (highs body) 998 ≡ true → check_pieces (variables ps ls) mem (answers body) body ≡ true
    → IsFineFunction (translated w) of_trap (function_of name ps ls (stmts_of body))
checked w mem has name ps ls body p l few fewer low h =
    let ss = stmts_of body in
    let s = scope_of (translated w) (function_of name ps ls ss) in
    let given = heads_are_provided w name ps ls ss p l in
    made_of_fine (translated w) name ps ls ss (highs body) (at_most (highs body) 998 low)
    (together s at_top (highs body) ss
    (pieces_fine s (variables ps ls) mem (answers body) given (λ e. memories_are_provided w name ps ls ss p l (has e))
    (ints_join w name ps ls ss ps (ls ++ spare ∷ []) (params_are w name ps ls ss) (ints_join w name ps ls ss ls (spare ∷ []) (locals_are w name ps ls ss) (given.spare, tt)))
    (λ e. e) body at_top h))
    (omega (arith, few)) (omega (arith, few, fewer))
