-- The code of expressions, made from its end: each form is given the code that comes after it. Slots from d on are free. What is
-- wanted in a slot is written there by the last operation alone, so that the slot may be a variable that the expression reads.
use Rattle.std.specs.Prelude.{ℕ, suc, ◌==◌, ◌||◌, List, ◌∷◌, length, Option, Some, None, if◌then◌else◌}
use Rattle.sem_words.specs.declared.js_value.JsUnary.{JsUnary}
use Rattle.sem_words.specs.declared.js_value.JsUnary.TheVariants.{Neg, BitNot, Not, Plus}
use Rattle.sem_words.specs.Words.{word_of}
use Rattle.heap_lang.specs.declared.kind.ViewKind.{ViewKind}
use Rattle.asm_lang.specs.Modules.{Expr, lit, decimal, var, index, call, table_call, assign, store, unary, binary, chain, cond, comma, Exprs, no_exprs, exprs, Links, no_links, links}
use Rattle.asm_lang_valid.specs.declared.meaning.Builtin.TheVariants.{Imul, Clz32}
use Rattle.asm_lang_valid.specs.Scope.{Meaning, a_foreign, a_builtin, a_function}
use Rattle.asm_lang_valid.specs.Typing.{Scope, named, exprs_length, or_zero}
use Rattle.asm_lang_valid.specs.Refusal.{function_number}
use Rattle.asm2wasm_translation.specs.Values.{is_unsigned}
use Rattle.asm_run_code.specs.declared.op.Operator.{Operator}
use Rattle.asm_run_code.specs.declared.op.Operator.TheVariants as operators
use Rattle.asm_run_code.specs.declared.op.Op.{Op}
use Rattle.asm_run_code.specs.declared.op.Op.TheVariants.{Number, Copy, ReadGlobal, WriteGlobal, Apply, ApplyNumber, Negate, Complement, Zeros, ReadElement, WriteElement, Go, Unless, Call, CallEntry, CallImport}
use Rattle.asm_run_code.specs.Operators.{operator_of, link_operator}
use Rattle.asm_run_code.specs.Names.{local_slot, global_slot, view_kind, table_number, member_number, local, Seat, a_number, a_local, elsewhere, seat}

-- code before other code
abbrev pub Before : Type 0
Before = List Op → List Op

-- ---- where a value comes

-- the slot into which a value is put: the one that is asked for, and where none is the first free one
abbrev pub into : Option ℕ → (d : ℕ) → ℕ
into None d = d
into (Some to) d = to

-- a value that stands in a slot, in the one that is asked for
abbrev pub copied : Option ℕ → (from : ℕ) → Before
copied None from rest = rest
copied (Some to) from rest = if to == from then rest else Copy to from ∷ rest

-- ---- operands

-- an operation on an operand, in place or in the first free slot
abbrev pub seated : Option ℕ → (d : ℕ) → Before → (ℕ → Op) → Before
seated (Some a) d code op rest = op a ∷ rest
seated None d code op rest = code (op d ∷ rest)

-- goes on where the condition holds
abbrev pub tested : Option ℕ → (d : ℕ) → Before → (at : ℕ) → Before
tested place d code at rest = seated place d code (λ a. Unless a at) rest

-- an operation of two operands. The first one is read in place only where the second can't assign it
abbrev pub combined : Seat → Option ℕ → Operator → (to d : ℕ) → (first second : Before) → Before
combined (a_number n) place op to d first second rest = seated place d first (λ a. ApplyNumber op to a n) rest
combined (a_local y) place op to d first second rest = seated place d first (λ a. Apply op to a y) rest
combined elsewhere place op to d first second rest = first (second (Apply op to d (suc d) ∷ rest))

-- ---- forms

abbrev pub fetched : Option ℕ → (global to : ℕ) → Op
fetched (Some y) global to = Copy to y
fetched None global to = ReadGlobal to global

-- `code` puts the value into a slot
abbrev pub assigned : Option ℕ → (global : ℕ) → Option ℕ → (d : ℕ) → (code : ℕ → Before) → Before
assigned (Some y) global wanted d code rest = code y (copied wanted y rest)
assigned None global wanted d code rest = code (into wanted d) (WriteGlobal global (into wanted d) ∷ rest)

-- the index is read in place only where the value can't assign it; nothing is put into the wanted slot before the write
abbrev pub stored : Seat → Option ℕ → ViewKind → Option ℕ → (d : ℕ) → (first second : Before) → Before
stored (a_local y) place kind wanted d first second rest = seated place d first (λ a. WriteElement kind a y) (copied wanted y rest)
stored (a_number n) place kind wanted d first second rest = first (second (WriteElement kind d (suc d) ∷ copied wanted (suc d) rest))
stored elsewhere place kind wanted d first second rest = first (second (WriteElement kind d (suc d) ∷ copied wanted (suc d) rest))

abbrev pub prefixed : JsUnary → (to a : ℕ) → Op
prefixed Neg to a = Negate to a
prefixed BitNot to a = Complement to a
prefixed Not to a = ApplyNumber operators.Eq to a 0
prefixed Plus to a = Copy to a

-- the first operand of a chain stays in place where the second is a leaf
abbrev pub stays_by : Seat → Option ℕ → Option ℕ
stays_by elsewhere place = None
stays_by (a_number n) place = place
stays_by (a_local y) place = place

abbrev pub stays : Scope → Option ℕ → Links → Option ℕ
stays c place no_links = None
stays c place (links minus e ls) = stays_by (seat c e) place

-- the sum so far is put into the first free slot, and that of all operands where it is wanted
abbrev pub sum_slot : Option ℕ → (d : ℕ) → Links → ℕ
sum_slot wanted d no_links = into wanted d
sum_slot wanted d (links minus e ls) = d

-- a further operand, where the sum so far stands in slot a
abbrev pub linked : Seat → Operator → (to a d : ℕ) → Before → Before
linked (a_number n) op to a d code rest = ApplyNumber op to a n ∷ rest
linked (a_local y) op to a d code rest = Apply op to a y ∷ rest
linked elsewhere op to a d code rest = code (Apply op to a (suc d) ∷ rest)

-- `more` begins with the sum so far in a slot
abbrev pub chained : Option ℕ → (to d : ℕ) → (first : ℕ → Before) → (more : ℕ → Before) → Before
chained (Some a) to d first more rest = more a rest
chained None to d first more rest = first to (more d rest)

-- an arm of a choice, and the code after it
abbrev pub chosen : Option ℕ → (d : ℕ) → (condition first : Before) → (second rest : List Op) → List Op
chosen place d condition first second rest = tested place d condition (length second) (first (Go (length rest) ∷ second))

-- with the arguments from slot d on
abbrev pub called : Scope → Meaning → List ℕ → (count : ℕ) → Option ℕ → (d : ℕ) → (arguments product zeros : Before) → Before
called c (a_function f) n count wanted d arguments product zeros rest = arguments (Call (function_number c.home.functions n) d ∷ copied wanted d rest)
called c (a_foreign p) n count wanted d arguments product zeros rest = arguments (CallImport (member_number c.home.globals p) count d ∷ copied wanted d rest)
called c (a_builtin Imul) n count wanted d arguments product zeros rest = product rest
called c (a_builtin Clz32) n count wanted d arguments product zeros rest = zeros rest
called c _ n count wanted d arguments product zeros rest = arguments rest

-- ---- expressions

module _ (c : Scope) where
  unfoldable mutual
    -- puts the value where it is wanted
    pub value : (wanted : Option ℕ) → (d : ℕ) → Expr → Before
    value wanted d (lit z) rest = Number (into wanted d) (word_of 32 z) ∷ rest
    -- no double has a value here
    value wanted d (decimal bs) rest = rest
    value wanted d (var n) rest = fetched (local_slot c n) (global_slot c n) (into wanted d) ∷ rest
    value wanted d (index n i) rest = seated (local c i) d (λ more. value (Some d) d i more) (λ a. ReadElement (view_kind (named c n)) (into wanted d) a) rest
    value wanted d (call n es) rest =
        called c (named c n) n (exprs_length es) wanted d (λ more. arguments d es more) (λ more. product (into wanted d) d es more) (λ more. zeros (into wanted d) d es more) rest
    -- the index of the entry waits before the arguments
    value wanted d (table_call n i es) rest =
        value (Some d) d i (arguments (suc d) es (CallEntry (table_number c.home n) d (suc d) ∷ copied wanted (suc d) rest))
    value wanted d (assign n e) rest = assigned (local_slot c n) (global_slot c n) wanted d (λ to more. value (Some to) d e more) rest
    value wanted d (store n i e) rest =
        stored (seat c e) (local c i) (view_kind (named c n)) wanted d (λ more. value (Some d) d i more) (λ more. value (Some (suc d)) (suc d) e more) rest
    value wanted d (unary op e) rest = seated (local c e) d (λ more. value (Some d) d e more) (λ a. prefixed op (into wanted d) a) rest
    -- `e|0` is the word of e
    value wanted d (binary op l r) rest =
        if or_zero op r then value wanted d l rest
        else combined (seat c r) (local c l) (operator_of op (is_unsigned l || is_unsigned r)) (into wanted d) d (λ more. value (Some d) d l more) (λ more. value (Some (suc d)) (suc d) r more) rest
    value wanted d (chain e ls) rest =
        chained (stays c (local c e) ls) (sum_slot wanted d ls) d (λ to more. value (Some to) d e more) (λ a more. sums wanted a d ls more) rest
    value wanted d (cond e a b) rest =
        chosen (local c e) d (λ more. value (Some d) d e more) (λ more. value wanted d a more) (value wanted d b rest) rest
    value wanted d (comma es) rest = last wanted d es rest

    -- each into a slot, from slot d on
    pub arguments : (d : ℕ) → Exprs → Before
    arguments d no_exprs rest = rest
    arguments d (exprs e es) rest = value (Some d) d e (arguments (suc d) es rest)

    -- Math.imul of two arguments
    pub product : (to d : ℕ) → Exprs → Before
    product to d no_exprs rest = rest
    product to d (exprs l no_exprs) rest = rest
    product to d (exprs l (exprs r es)) rest =
        combined (seat c r) (local c l) operators.Mul to d (λ more. value (Some d) d l more) (λ more. value (Some (suc d)) (suc d) r more) rest

    -- Math.clz32 of one argument
    pub zeros : (to d : ℕ) → Exprs → Before
    zeros to d no_exprs rest = rest
    zeros to d (exprs e es) rest = seated (local c e) d (λ more. value (Some d) d e more) (λ a. Zeros to a) rest

    -- the further operands, where the sum so far stands in slot a
    pub sums : (wanted : Option ℕ) → (a d : ℕ) → Links → Before
    sums wanted a d no_links rest = rest
    sums wanted a d (links minus e ls) rest =
        linked (seat c e) (link_operator minus) (sum_slot wanted d ls) a d (λ more. value (Some (suc d)) (suc d) e more) (sums wanted d d ls rest)

    -- all of them, and the value of the last one
    pub last : (wanted : Option ℕ) → (d : ℕ) → Exprs → Before
    last wanted d no_exprs rest = rest
    last wanted d (exprs e no_exprs) rest = value wanted d e rest
    last wanted d (exprs e (exprs x es)) rest = value None d e (last wanted d (exprs x es) rest)
