use Rattle.std.proofs.Common.{◌≡◌, ℕ, ◌+◌, ◌-◌, ◌<◌, Bool, true, false, cond, List, ◌∷◌, Option, Some, length, get_or, drop, map, option_map, refl, sym, ap, ◌∙◌, arith, Bor}
use Rattle.std.proofs.lemmas.List.{drop_more}
use Rattle.std.proofs.lemmas.Map.Text.{hash_map_updates_str}
use Rattle.std.specs.HashMap.{HashMap, UpdatesBy, get_by}
use Rattle.std.specs.Str.{bytes_eq}
use Rattle.session_lang.specs.declared.script.CallShape.{CallShape}
use Rattle.session_lang.specs.CallingForms.{ShapePlain, shape_of_name}
use Rattle.session_lang.specs.ShapeTable.{HasShapes}
use Rattle.session_lang.specs.Views.{shape_of}
use Rattle.session_lang.proofs.splitting.shape_table.Goals as goal

view_of_choice : {A B : Type 0} (f : A → B) (test : Bool) (x : A) (old : Option A) → option_map f (cond test (Some x) old) ≡ cond test (Some (f x)) (option_map f old)
view_of_choice f true x old = refl
view_of_choice f false x old = refl

-- after a shape is put at its key, the table has it and the shapes that it had
shapes_more : {S : Type 0} (old new : HashMap (Bor (List ℕ)) (Bor CallShape) S) (key : Bor (List ℕ)) (shape : Bor CallShape) (rest : List ShapePlain)
    → key.now ≡ (shape_of shape.now).key
    → UpdatesBy (λ x y. bytes_eq x.now y.now) (λ k. bytes_eq key.now k.now) old new (Some shape)
    → HasShapes old rest → HasShapes new (shape_of shape.now ∷ rest)
shapes_more old new key shape rest named updates has name =
    ap (option_map (λ s. shape_of s.now)) (hash_map_updates_str key.now old new (Some shape) updates name)
    ∙ view_of_choice (λ s. shape_of s.now) (bytes_eq key.now name) shape (get_by (λ key. bytes_eq name key.now) old)
    ∙ ap (cond (bytes_eq key.now name) (Some (shape_of shape.now))) (has name)
    ∙ ap (λ k. cond (bytes_eq k name) (Some (shape_of shape.now)) (shape_of_name rest name)) named

-- the shapes from a place on, with the one before it
shapes_from : (shapes : List CallShape) (i j : ℕ) (shape : CallShape) → i < length shapes → i + 1 ≡ j → shape ≡ get_or shapes i shape
    → shape_of shape ∷ map shape_of (drop j shapes) ≡ map shape_of (drop i shapes)
shapes_from shapes i j shape lt next is =
    ap (λ n. shape_of shape ∷ map shape_of (drop n shapes)) (sym next)
    ∙ ap (λ s. shape_of s ∷ map shape_of (drop (i + 1) shapes)) is
    ∙ sym (ap (map shape_of) (drop_more shapes i shape lt))

pub loop-i-preserved : goal.loop-i-preserved
loop-i-preserved c name =
    let here : c.loop-i.i - 1 < length c.args.shapes.now = omega arith in
    shapes_more c.loop-i.table c.insert.new.self c.as_bytes.result _ (map shape_of (drop c.loop-i.i c.args.shapes.now)) c.as_bytes.ensures c.in_ok-insert.ensures.updates c.loop-i.invariant name
    ∙ ap (λ shapes. shape_of_name shapes name) (shapes_from c.args.shapes.now (c.loop-i.i - 1) c.loop-i.i c.index-shapes-i.result here (omega arith) c.index-shapes-i.is)
