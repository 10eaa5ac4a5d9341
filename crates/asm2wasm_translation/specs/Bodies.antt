-- The code of statements and of the bodies of functions. A statement begins and ends with no value on the stack.
use Rattle.std.specs.Prelude.{ℕ, zero, suc, ◌*◌, Bool, true, false, ◌&&◌, nat_le, nat_lt, ◌==◌, List, [], ◌∷◌, ◌++◌, length, replicate, Option, Some, None, ℤ, pos, ◌+ℤ◌, ◌-ℤ◌, int_lt, unsigned_abs, if◌then◌else◌}
use Rattle.sem_words.specs.declared.word.Bin.TheVariants as bins
use Rattle.sem_words.specs.declared.word.Rel.TheVariants as rels
use Rattle.sem_words.specs.Words.{word_of}
use Rattle.wasm_lang.specs.Instructions.{Plain, bin32, rel32, eqz32, local_get, local_set}
use Rattle.wasm_lang_exec.specs.Code.{Trees, ε, ◌▹◌, ◌⊕◌, block, loop, if_block, br, br_if, br_table, return}
use Rattle.asm_lang.specs.Trees.{Init, number}
use Rattle.asm_lang.specs.Modules as text
use Rattle.asm_lang.specs.Modules.{Expr, Stmt, if_only, if_else, returns, while_loop, do_while, for_loop, breaks, continues, labelled, switches, empty, Stmts, no_stmts, stmts, Clauses, no_clauses, clauses, Variable}
use Rattle.asm_lang_valid.specs.Scope.{is_in}
use Rattle.asm_lang_valid.specs.Typing.{Scope, values}
use Rattle.asm_lang_exec.specs.Meaning.{before_default, passed_over}
use Rattle.asm2wasm_translation.specs.Numbers.{first_scratch}
use Rattle.asm2wasm_translation.specs.Values as value
use Rattle.asm2wasm_translation.specs.Values.{plains, one, value_code, void_code}

-- ---- labels

-- what stands open, and what a branch to its label does
pub data Label : Type 0 where
  -- nothing that a statement names: an if, the start of a loop, a clause
  plainly : Label
  -- it leaves a loop or a switch
  breakable : Label
  -- it leaves a statement with these labels
  named_end : List (List ℕ) → Label
  -- it leaves the body of a loop with these labels
  next_turn : List (List ℕ) → Label

-- how many labels stand inside the one that is meant; all where there is none
abbrev pub labels_inside : (Label → Bool) → List Label → ℕ
labels_inside is [] = 0
labels_inside is (l ∷ ls) = if is l then 0 else suc (labels_inside is ls)

abbrev pub is_breakable : Label → Bool
is_breakable breakable = true
is_breakable _ = false

abbrev pub is_end_of : List ℕ → Label → Bool
is_end_of n (named_end ns) = is_in n ns
is_end_of n _ = false

abbrev pub is_turn : Label → Bool
is_turn (next_turn ns) = true
is_turn _ = false

abbrev pub is_turn_of : List ℕ → Label → Bool
is_turn_of n (next_turn ns) = is_in n ns
is_turn_of n _ = false

abbrev pub break_label : List Label → Option (List ℕ) → ℕ
break_label ls None = labels_inside is_breakable ls
break_label ls (Some n) = labels_inside (is_end_of n) ls

abbrev pub continue_label : List Label → Option (List ℕ) → ℕ
continue_label ls None = labels_inside is_turn ls
continue_label ls (Some n) = labels_inside (is_turn_of n) ls

-- those round the body of a loop
abbrev pub in_body : List (List ℕ) → List Label → List Label
in_body own ls = next_turn own ∷ plainly ∷ breakable ∷ ls

-- ---- loops

abbrev pub again : Trees
again = br 0 ▹ ε

abbrev pub loop_code : (test body step : Trees) → Trees
loop_code test body step = block None (loop None (test ⊕ (block None body ▹ (step ⊕ again))) ▹ ε) ▹ ε

abbrev pub do_code : (body test : Trees) → Trees
do_code body test = block None (loop None (block None body ▹ (test ⊕ (br_if 0 ▹ ε))) ▹ ε) ▹ ε

-- ---- which form a switch has

-- with the default
abbrev pub clauses_count : Clauses → ℕ
clauses_count no_clauses = 0
clauses_count (clauses v ss cs) = suc (clauses_count cs)

-- one of at most so many has a block for each clause, so that blocks don't lie too deep
abbrev pub most_blocks : ℕ
most_blocks = 280

abbrev pub is_short : Clauses → Bool
is_short cs = nat_le (clauses_count cs) most_blocks

abbrev pub lesser : ℤ → ℤ → ℤ
lesser a b = if int_lt b a then b else a

abbrev pub greater : ℤ → ℤ → ℤ
greater a b = if int_lt a b then b else a

abbrev pub least : ℤ → List ℤ → ℤ
least z [] = z
least z (v ∷ vs) = lesser v (least z vs)

abbrev pub greatest : ℤ → List ℤ → ℤ
greatest z [] = z
greatest z (v ∷ vs) = greater v (greatest z vs)

-- the least value of a case, and how far the greatest lies above it; 0 where there is no case
abbrev pub low : List ℤ → ℤ
low [] = pos 0
low (v ∷ vs) = least v vs

abbrev pub span : List ℤ → ℕ
span [] = 0
span (v ∷ vs) = unsigned_abs (greatest v vs -ℤ least v vs)

-- values that lie close together are the indices of a table
abbrev pub is_dense : List ℤ → Bool
is_dense vs = nat_le 4 (length vs) && nat_lt (span vs) (3 * length vs)

-- the clauses for so many values from this one on
abbrev pub targets : ℕ → ℤ → Clauses → List ℕ
targets zero z cs = []
targets (suc n) z cs = passed_over z cs ∷ targets n (z +ℤ pos 1) cs

-- ---- the clause of a value; t holds it

-- to the label of the clause: label i is the place of clause i, and the last one the end of the switch
abbrev pub case_branches : (t i : ℕ) → Clauses → Trees
case_branches t i no_clauses = ε
case_branches t i (clauses None ss cs) = case_branches t (suc i) cs
case_branches t i (clauses (Some v) ss cs) =
    plains (local_get t ∷ value.number (word_of 32 v) ∷ rel32 rels.Eq ∷ []) ⊕ (br_if i ▹ case_branches t (suc i) cs)

abbrev pub table_branch : (t : ℕ) → Clauses → Trees
table_branch t cs =
    plains (local_get t ∷ value.number (word_of 32 (low (values cs))) ∷ bin32 bins.Sub ∷ [])
    ⊕ (br_table (targets (suc (span (values cs))) (low (values cs)) cs) (before_default cs) ▹ ε)

abbrev pub dispatch : (t : ℕ) → Clauses → Trees
dispatch t cs = if is_dense (values cs) then table_branch t cs else case_branches t 0 cs ⊕ (br (before_default cs) ▹ ε)

-- into k, as the number of the first clause that is run
abbrev pub case_numbers : (t k i : ℕ) → Clauses → Trees
case_numbers t k i no_clauses = ε
case_numbers t k i (clauses None ss cs) = case_numbers t k (suc i) cs
case_numbers t k i (clauses (Some v) ss cs) =
    plains (value.number i ∷ local_set k ∷ local_get t ∷ value.number (word_of 32 v) ∷ rel32 rels.Eq ∷ []) ⊕ (br_if 0 ▹ case_numbers t k (suc i) cs)

abbrev pub first_clause : (t k : ℕ) → Clauses → Trees
first_clause t k cs = block None (case_numbers t k 0 cs ⊕ plains (value.number (before_default cs) ∷ local_set k ∷ [])) ▹ ε

-- is clause j one that is run
abbrev pub reached : (k j : ℕ) → Trees
reached k j = plains (local_get k ∷ value.number j ∷ rel32 rels.LeU ∷ [])

-- all clauses after one that was run are run
abbrev pub all_further : (k : ℕ) → Trees
all_further k = plains (value.number 0 ∷ local_set k ∷ [])

-- ---- statements, where the heap has `size` bytes

module _ (size : ℕ) (c : Scope) where
  abbrev pub part_code : Option Expr → Trees
  part_code None = ε
  part_code (Some e) = void_code size c 0 e

  -- leaves a loop where the condition doesn't hold
  abbrev pub test_code : Option Expr → Trees
  test_code None = ε
  test_code (Some e) = value_code size c 0 e ⊕ (one eqz32 ⊕ (br_if 1 ▹ ε))

  -- the value of a switch, and in a long one the number of its first clause
  abbrev pub value_local : ℕ
  value_local = first_scratch c.within

  abbrev pub number_local : ℕ
  number_local = suc (first_scratch c.within)

  abbrev mutual
    -- under these labels, the innermost first; a loop has those that stand directly before it as its own
    pub stmt_code : List Label → (own : List (List ℕ)) → Stmt → Trees
    stmt_code ls own (text.block ss) = stmts_code ls ss
    stmt_code ls own (text.plain e) = void_code size c 0 e
    stmt_code ls own empty = ε
    stmt_code ls own (if_only e s) = value_code size c 0 e ⊕ (if_block None (stmt_code (plainly ∷ ls) [] s) ε ▹ ε)
    stmt_code ls own (if_else e s r) = value_code size c 0 e ⊕ (if_block None (stmt_code (plainly ∷ ls) [] s) (stmt_code (plainly ∷ ls) [] r) ▹ ε)
    stmt_code ls own (returns None) = return ▹ ε
    stmt_code ls own (returns (Some e)) = value_code size c 0 e ⊕ (return ▹ ε)
    stmt_code ls own (while_loop e s) = loop_code (test_code (Some e)) (stmt_code (in_body own ls) [] s) ε
    stmt_code ls own (do_while s e) = do_code (stmt_code (in_body own ls) [] s) (value_code size c 0 e)
    stmt_code ls own (for_loop x y z s) = part_code x ⊕ loop_code (test_code y) (stmt_code (in_body own ls) [] s) (part_code z)
    stmt_code ls own (breaks n) = br (break_label ls n) ▹ ε
    stmt_code ls own (continues n) = br (continue_label ls n) ▹ ε
    stmt_code ls own (labelled ns s) = block None (stmt_code (named_end ns ∷ ls) ns s) ▹ ε
    stmt_code ls own (switches e cs) =
        value_code size c 0 e ⊕ (one (local_set value_local) ⊕
        (if is_short cs then block None (short_code ls (dispatch value_local cs) cs) ▹ ε
        else first_clause value_local number_local cs ⊕ (block None (long_code ls 0 cs) ▹ ε)))

    pub stmts_code : List Label → Stmts → Trees
    stmts_code ls no_stmts = ε
    stmts_code ls (stmts s ss) = stmt_code ls [] s ⊕ stmts_code ls ss

    -- the blocks of a short switch round this code, each with a clause after it
    pub short_code : List Label → Trees → Clauses → Trees
    short_code ls inside no_clauses = inside
    short_code ls inside (clauses v ss cs) = short_code ls (block None inside ▹ stmts_code (replicate (clauses_count cs) plainly ++ breakable ∷ ls) ss) cs

    -- the clauses of a long switch from clause j on
    pub long_code : List Label → (j : ℕ) → Clauses → Trees
    long_code ls j no_clauses = ε
    long_code ls j (clauses v ss cs) =
        reached number_local j ⊕ (if_block None (stmts_code (plainly ∷ breakable ∷ ls) ss ⊕ all_further number_local) ε ▹ long_code ls (suc j) cs)

  -- ---- functions

  -- the locals whose first values aren't 0, from local i on
  abbrev pub literal_word : Init → ℕ
  literal_word (number z) = word_of 32 z
  literal_word _ = 0

  abbrev pub first_value : (i word : ℕ) → List Plain
  first_value i word = if word == 0 then [] else value.number word ∷ local_set i ∷ []

  abbrev pub locals_code : (i : ℕ) → List Variable → Trees
  locals_code i [] = ε
  locals_code i (v ∷ vs) = plains (first_value i (literal_word v.init)) ⊕ locals_code (suc i) vs

  -- the last return of a function leaves its value
  abbrev pub last_code : Stmt → Trees
  last_code (returns (Some e)) = value_code size c 0 e
  last_code s = stmt_code [] [] s

  abbrev pub body_code : Stmts → Trees
  body_code no_stmts = ε
  body_code (stmts s no_stmts) = last_code s
  body_code (stmts s (stmts r rs)) = stmt_code [] [] s ⊕ body_code (stmts r rs)

  abbrev pub function_code : Trees
  function_code = locals_code (length c.within.params) c.within.locals ⊕ body_code c.within.body
