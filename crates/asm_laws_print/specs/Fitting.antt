-- The statements, declarations and modules that can be printed and read again.
use Rattle.std.specs.Prelude.{◌≡◌, ℕ, ◌^◌, ◌<◌, ◌≤◌, Bool, true, false, List, [], ◌∷◌, length, Option, Some, None, ℤ, pos, negsuc, ◌==◌, if◌then◌else◌}
use Rattle.std.specs.List.{AllByRecursion}
use Rattle.asm_lang_tokens.specs.Forms.{kind_of}
use Rattle.asm_lang.specs.Lexemes.{identifier, a_decimal, Lexeme, class_of, is_word}
use Rattle.asm_lang.specs.Trees as trees
use Rattle.asm_lang.specs.Trees.{Init, ModuleTree}
use Rattle.asm_lang.specs.Grammar.{IsModule}
use Rattle.asm_lang.specs.Modules.{Expr, Stmt, block, plain, empty, if_only, if_else, returns, while_loop, do_while, for_loop, breaks, continues, labelled, switches, Stmts, no_stmts, stmts, Clauses, no_clauses, clauses, Variable, Param, Function, Table, Export, Exports, one, many, Module, module_of}
use Rattle.asm_laws_print.specs.Spelled.{HasClass, FitsExpr}

abbrev pub FitsOption : Option Expr → Type 0
FitsOption None = Unit {0}
FitsOption (Some e) = FitsExpr e

abbrev pub FitsName : Option (List ℕ) → Type 0
FitsName None = Unit {0}
FitsName (Some n) = HasClass identifier n

abbrev pub AreNames : List (List ℕ) → Type 0
AreNames ns = AllByRecursion (HasClass identifier) ns

-- a property, which may be a reserved word
abbrev pub IsProperty : List ℕ → Type 0
IsProperty w = is_word (class_of (kind_of w) w) ≡ true

-- a number of 64 bits with its sign
abbrev pub FitsNumber : ℤ → Type 0
FitsNumber (pos n) = n < 2 ^ 63
FitsNumber (negsuc n) = n < 2 ^ 63

-- ---- statements

-- The statement ends in an `if` without `else`, so that an `else` after it would belong to that `if`.
abbrev pub ends_open : Stmt → Bool
ends_open (if_only c s) = true
ends_open (if_else c s r) = ends_open r
ends_open (while_loop c s) = ends_open s
ends_open (for_loop a b c s) = ends_open s
ends_open (labelled ls s) = ends_open s
ends_open _ = false

abbrev pub is_labelled : Stmt → Bool
is_labelled (labelled ls s) = true
is_labelled _ = false

abbrev pub some_names : List (List ℕ) → Bool
some_names [] = false
some_names (n ∷ ns) = true

abbrev pub some_clauses : Clauses → Bool
some_clauses no_clauses = false
some_clauses (clauses v ss cs) = true

-- No `else` would go to another `if`, a labelled statement has all its labels and at least one, and a default clause is the last.
abbrev mutual
  pub FitsStmt : Stmt → Type 0
  FitsStmt (block ss) = FitsStmts ss
  FitsStmt (plain e) = FitsExpr e
  FitsStmt empty = Unit {0}
  FitsStmt (if_only c s) = FitsExpr c × FitsStmt s
  FitsStmt (if_else c s r) = FitsExpr c × (ends_open s ≡ false) × FitsStmt s × FitsStmt r
  FitsStmt (returns o) = FitsOption o
  FitsStmt (while_loop c s) = FitsExpr c × FitsStmt s
  FitsStmt (do_while s c) = FitsStmt s × FitsExpr c
  FitsStmt (for_loop a b c s) = FitsOption a × FitsOption b × FitsOption c × FitsStmt s
  FitsStmt (breaks l) = FitsName l
  FitsStmt (continues l) = FitsName l
  FitsStmt (labelled ls s) = (some_names ls ≡ true) × AreNames ls × (is_labelled s ≡ false) × FitsStmt s
  FitsStmt (switches e cs) = FitsExpr e × FitsClauses cs

  pub FitsStmts : Stmts → Type 0
  FitsStmts no_stmts = Unit {0}
  FitsStmts (stmts s ss) = FitsStmt s × FitsStmts ss

  pub FitsClauses : Clauses → Type 0
  FitsClauses no_clauses = Unit {0}
  FitsClauses (clauses None ss cs) = FitsStmts ss × (some_clauses cs ≡ false)
  FitsClauses (clauses (Some v) ss cs) = FitsNumber v × FitsStmts ss × FitsClauses cs

-- ---- declarations

-- a decimal without its minus sign
abbrev pub unsigned : List ℕ → List ℕ
unsigned [] = []
unsigned (b ∷ bs) = if b == 45 then bs else b ∷ bs

-- what a local variable begins with
abbrev pub FitsLiteral : Init → Type 0
FitsLiteral (trees.number v) = FitsNumber v
FitsLiteral (trees.decimal bs) = HasClass a_decimal (unsigned bs)
FitsLiteral _ = ⊥

-- what a global variable begins with
abbrev pub FitsInit : Init → Type 0
FitsInit (trees.foreign_int f p) = HasClass identifier f × IsProperty p
FitsInit (trees.foreign_double f p) = HasClass identifier f × IsProperty p
FitsInit (trees.member f p) = HasClass identifier f × IsProperty p
FitsInit (trees.math f p) = HasClass identifier f × IsProperty p
FitsInit (trees.view f p h) = HasClass identifier f × IsProperty p × HasClass identifier h
FitsInit i = FitsLiteral i

abbrev pub FitsGlobal : Variable → Type 0
FitsGlobal v = HasClass identifier v.name × FitsInit v.init

abbrev pub FitsLocal : Variable → Type 0
FitsLocal v = HasClass identifier v.name × FitsLiteral v.init

abbrev pub FitsParam : Param → Type 0
FitsParam p = HasClass identifier p.name

pub record FitsFunction (f : Function) : Type 0 where
  pub name : HasClass identifier f.name
  pub params : AllByRecursion FitsParam f.params
  pub locals : AllByRecursion FitsLocal f.locals
  pub body : FitsStmts f.body

abbrev pub FitsTable : Table → Type 0
FitsTable t = HasClass identifier t.name × (some_names t.members ≡ true) × AreNames t.members

abbrev pub FitsExport : Export → Type 0
FitsExport e = IsProperty e.key × HasClass identifier e.function

abbrev pub FitsExports : Exports → Type 0
FitsExports (one f) = HasClass identifier f
FitsExports (many es) = AllByRecursion FitsExport es

-- ---- modules

pub record FitsModule (m : Module) : Type 0 where
  pub name : FitsName m.name
  pub params : AreNames m.params
  pub few_params : length m.params ≤ 3
  pub globals : AllByRecursion FitsGlobal m.globals
  pub functions : AllByRecursion FitsFunction m.functions
  pub tables : AllByRecursion FitsTable m.tables
  pub exports : FitsExports m.exports

-- the tokens are a spelling of the module
pub record IsModuleRead (m : Module) (xs : List Lexeme) : Type 0 where
  pub tree : ModuleTree
  pub is_module : IsModule tree xs
  pub is_this : module_of tree ≡ m
