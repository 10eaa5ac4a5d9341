-- Lists of statements, labels, and stacks of frames.
use Rattle.std.proofs.Common.{◌≡◌, ◌-◌, ◌<◌, List, [], ◌∷◌, ◌++◌, Some, None, length, get_or, reverse, refl, sym, ap, subst, ◌∙◌, arith}
use Rattle.std.specs.Prelude.{slice_get}
use Rattle.std.proofs.lemmas.List.{reverse-append, length-reverse, get_or-reverse}
use Rattle.std.proofs.lemmas.Option.{none-some, slice_get-get_or, slice_get_within, get_or_from_slice_get}
use Rattle.asm_lang.specs.Trees.{StmtTree, StmtTrees, no_stmt, one_stmt}
use Rattle.asm_lang.specs.Machine.{more_stmts_of}
use Rattle.asm_lang.specs.TreeHeights.{stmt_height}
use Rattle.asm_laws_height.specs.Peaks.{last_height}
use Rattle.asm_grammar_nodes.specs.declared.lexeme.Word.{Word}
use Rattle.asm_grammar_nodes.specs.Views.{words_view}
use Rattle.asm_grammar_stmts.specs.declared.frame.Frame.{Frame}
use Rattle.asm_grammar_stmts.specs.declared.frame.Frame.TheVariants as frames
use Rattle.asm_grammar_stmts.specs.declared.frames.Entry.{Entry}
use Rattle.asm_grammar_stmts.specs.Frames.{frames_of}
use Rattle.asm_grammar_stmts.specs.Reach.{Reach, reach_view, under_label, under_all_labels, counted_reach, Risen}
use Rattle.asm_grammar_stmts.specs.Views.{frames_last}

-- ---- lists of statements

pub last_more : (ss : StmtTrees) (s : StmtTree) → last_height (more_stmts_of ss s) ≡ stmt_height s
last_more no_stmt s = refl
last_more (one_stmt x no_stmt) s = refl
last_more (one_stmt x (one_stmt r rs)) s = last_more (one_stmt r rs) s

pub ruleset items = (last_more)

-- ---- labels

pub no_labels : (ws : List Word) (r : Reach) → ws ≡ [] → under_all_labels (words_view ws) r ≡ r
no_labels [] r h = refl
no_labels (w ∷ ws) r h = absurd cc

pub some_labels : (ws : List Word) (r : Reach) → (ws ≡ [] → ⊥) → under_all_labels (words_view ws) r ≡ under_label r
some_labels [] r h = absurd (h refl)
some_labels (w ∷ ws) r h = refl

pub ruleset labels = (no_labels, some_labels)

-- ---- stacks

pub entries_last : (es : List Entry) (e : Entry) → reverse (es ++ e ∷ []) ≡ e ∷ reverse es
entries_last es e = reverse-append es (e ∷ [])

pub frames_entry : (es : List Entry) (e : Entry) → frames_of (reverse (es ++ e ∷ [])) ≡ e.frame ∷ frames_of (reverse es)
frames_entry es e = ap (λ (l : List Entry). frames_of l) (entries_last es e)

pub pushed : (es : List Entry) (e : Entry) (top next : Reach) → Risen (reverse es) top → top ≡ reach_view e.below → next ≡ counted_reach e.frame top → Risen (reverse (es ++ e ∷ [])) next
pushed es e top next h below is =
    let last : Risen (e ∷ reverse es) next = (is ∙ ap (λ (r : Reach). counted_reach e.frame r) below, subst (λ (r : Reach). Risen (reverse es) r) below h) in
    subst (λ (l : List Entry). Risen l next) (sym (entries_last es e)) last

pub popped : (es : List Entry) (e : Entry) (top : Reach) → Risen (reverse (es ++ e ∷ [])) top → Risen (reverse es) (reach_view e.below)
popped es e top h =
    let last : Risen (e ∷ reverse es) top = subst (λ (l : List Entry). Risen l top) (entries_last es e) h in
    last.1

pub ruleset stacks = (frames_entry, pushed, popped)

-- ---- the innermost frame

pub none_last : (es : List Entry) (ss : StmtTrees) → slice_get es (length es - 1) ≡ None → frames_last (frames_of (reverse es)) ss ≡ last_height ss
none_last [] ss h = refl
none_last (e ∷ es) ss h = absurd (none-some _ (sym h ∙ slice_get-get_or (e ∷ es) (length (e ∷ es) - 1) e (omega arith)))

innermost_last : (f : Frame) (fs : List Frame) (ss : StmtTrees) → frames_last (f ∷ fs) ss ≡ frames_last (f ∷ []) ss
innermost_last (frames.Item rs l) fs ss = refl
innermost_last (frames.CaseItem v rs w) fs ss = refl
innermost_last f fs ss = refl

front_last : (es : List Entry) (e : Entry) (ss : StmtTrees) → 0 < length es → get_or es 0 e ≡ e → frames_last (frames_of es) ss ≡ frames_last (e.frame ∷ []) ss
front_last [] e ss some is = absurd (omega arith)
front_last (x ∷ es) e ss some is = innermost_last x.frame (frames_of es) ss ∙ ap (λ (y : Entry). frames_last (y.frame ∷ []) ss) is

pub some_last : (es : List Entry) (e : Entry) (ss : StmtTrees) → slice_get es (length es - 1) ≡ Some e → frames_last (frames_of (reverse es)) ss ≡ frames_last (e.frame ∷ []) ss
some_last es e ss h =
    let within : length es - 1 < length es = slice_get_within es (length es - 1) e h in
    let zero : length es - 1 - 0 ≡ length es - 1 = omega arith in
    let at : get_or (reverse es) 0 e ≡ e = get_or-reverse es 0 e (omega arith) ∙ ap (λ i. get_or es i e) zero ∙ get_or_from_slice_get es (length es - 1) e e h in
    front_last (reverse es) e ss (omega (arith, length-reverse es)) at

pub ruleset lasts = (none_last, some_last)
