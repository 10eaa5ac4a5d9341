-- Parts of a module that are being read, as steps of reading. Each is told what comes after it.
use Rattle.std.specs.Prelude.{◌≡◌, ℕ, true, List, [], ◌∷◌, ◌++◌, Option, Some, None, refl}
use Rattle.asm_lang.specs.Lexemes.{Class, identifier, open_paren, close_paren, dot, Lexeme, sign, a_property, a_zero}
use Rattle.asm_lang.specs.Trees.{Init, foreign_int, foreign_double, math, view}
use Rattle.asm_lang.specs.Machine.{is_quiet, State, closes, at_literal, after_sign, at_init, after_member, in_names, may_comma, at_use, Step, goes, expects, either, stuck, feed, params_step, heading_step, at_start}
use Rattle.asm_grammar_nodes.specs.declared.lexeme.Lexeme.{Lexeme as CodeLexeme}
use Rattle.asm_grammar_nodes.specs.Views.{lexeme_view, lexemes_view, init_view}
use Rattle.asm_grammar_decls.specs.declared.want.Ending.{Ending}
use Rattle.asm_grammar_decls.specs.declared.want.Ending.TheVariants as endings
use Rattle.asm_grammar_decls.specs.declared.heading.HeadingParams.{HeadingParams}
use Rattle.asm_grammar_decls.specs.declared.heading.HeadingParams.TheVariants as params
use Rattle.asm_grammar_decls.specs.declared.heading.HeadingReading.{HeadingReading}
use Rattle.asm_grammar_decls.specs.declared.heading.HeadingReading.TheVariants as headings
use Rattle.asm_grammar_decls.specs.declared.heading.HeadingStep.{HeadingStep}
use Rattle.asm_grammar_decls.specs.declared.heading.HeadingStep.TheVariants as heading_steps
use Rattle.asm_grammar_decls.specs.declared.names.NamesReading.{NamesReading}
use Rattle.asm_grammar_decls.specs.declared.names.NamesReading.TheVariants as names
use Rattle.asm_grammar_decls.specs.declared.names.NamesStep.{NamesStep}
use Rattle.asm_grammar_decls.specs.declared.names.NamesStep.TheVariants as names_steps
use Rattle.asm_grammar_decls.specs.declared.init.InitReading.{InitReading}
use Rattle.asm_grammar_decls.specs.declared.init.InitReading.TheVariants as inits
use Rattle.asm_grammar_decls.specs.declared.init.ViewReading.{ViewReading}
use Rattle.asm_grammar_decls.specs.declared.init.ViewReading.TheVariants as views
use Rattle.asm_grammar_decls.specs.declared.init.InitStep.{InitStep}
use Rattle.asm_grammar_decls.specs.declared.init.InitStep.TheVariants as init_steps

abbrev pub ending_view : Ending → Lexeme → State → Step → Step
ending_view endings.Written t s last = goes s
ending_view endings.Missing t s last = last
ending_view endings.Wrong t s last = stuck t

-- ---- the heading

abbrev pub name_text : Option CodeLexeme → Option (List ℕ)
name_text None = None
name_text (Some n) = Some n.text.now

abbrev pub params_view : HeadingParams → List (List ℕ)
params_view params.Zero = []
params_view (params.One a) = a.text.now ∷ []
params_view (params.Two a b) = a.text.now ∷ b.text.now ∷ []
params_view (params.Three a b c) = a.text.now ∷ b.text.now ∷ c.text.now ∷ []

abbrev pub third_param : Option (List ℕ) → List ℕ → List ℕ → Step
third_param name a b = expects (sign identifier) (λ c. goes (closes close_paren refl (params_step name (a ∷ b ∷ c.text ∷ []))))

abbrev pub after_second : Option (List ℕ) → List ℕ → List ℕ → Step
after_second name a b = goes (may_comma (λ u. third_param name a b) (closes close_paren refl (params_step name (a ∷ b ∷ []))))

abbrev pub second_param : Option (List ℕ) → List ℕ → Step
second_param name a = expects (sign identifier) (λ b. after_second name a b.text)

abbrev pub after_first : Option (List ℕ) → List ℕ → Step
after_first name a = goes (may_comma (λ t. second_param name a) (closes close_paren refl (params_step name (a ∷ []))))

abbrev pub name_step : Step
name_step = either (sign identifier) open_paren refl (λ n. expects (sign open_paren) (λ t. heading_step (Some n.text))) (heading_step None)

abbrev pub heading_reading_view : HeadingReading → Step
heading_reading_view headings.Start = at_start
heading_reading_view headings.Name = name_step
heading_reading_view (headings.OpenParen n) = expects (sign open_paren) (λ t. heading_step (Some n.text.now))
heading_reading_view (headings.FirstParam n) = heading_step (name_text n)
heading_reading_view (headings.AfterFirst n a) = after_first (name_text n) a.text.now
heading_reading_view (headings.SecondParam n a) = second_param (name_text n) a.text.now
heading_reading_view (headings.AfterSecond n a b) = after_second (name_text n) a.text.now b.text.now
heading_reading_view (headings.ThirdParam n a b) = third_param (name_text n) a.text.now b.text.now
heading_reading_view (headings.AfterThird n a b c) = goes (closes close_paren refl (params_step (name_text n) (a.text.now ∷ b.text.now ∷ c.text.now ∷ [])))
heading_reading_view (headings.OpenBrace n ps) = params_step (name_text n) (params_view ps)

abbrev pub heading_step_view : HeadingStep → Lexeme → Step
heading_step_view (heading_steps.On r) t = heading_reading_view r
heading_step_view (heading_steps.Done n ps) t = goes (at_use (record { name = name_text n; params = params_view ps }))
heading_step_view heading_steps.Stuck t = stuck t

-- ---- names between commas

abbrev pub names_reading_view : NamesReading → (c : Class) → is_quiet c ≡ true → (List Lexeme → Step) → Step
names_reading_view (names.After ns) c q k = goes (in_names c q (lexemes_view ns.items) k)
names_reading_view (names.Next ns) c q k = expects (sign identifier) (λ n. goes (in_names c q (lexemes_view ns.items ++ n ∷ []) k))

abbrev pub names_step_view : NamesStep → (c : Class) → is_quiet c ≡ true → (List Lexeme → Step) → Lexeme → Step
names_step_view (names_steps.On r) c q k t = names_reading_view r c q k
names_step_view (names_steps.Done ns) c q k t = k (lexemes_view ns.items)
names_step_view names_steps.Stuck c q k t = stuck t

-- ---- what a declaration gives its name

abbrev pub before_close : Lexeme → Lexeme → Lexeme → (Init → State) → Step
before_close f p h k = expects (sign close_paren) (λ w. goes (k (view f.text p.text h.text)))

abbrev pub before_zero : Lexeme → Lexeme → (Init → State) → Step
before_zero f p k = expects a_zero (λ u. goes (k (foreign_int f.text p.text)))

abbrev pub before_math : Lexeme → (Init → State) → Step
before_math f k = expects a_property (λ q. goes (k (math f.text q.text)))

abbrev pub before_double : Lexeme → (Init → State) → Step
before_double f k = expects a_property (λ p. goes (k (foreign_double f.text p.text)))

abbrev pub view_reading_view : ViewReading → (Init → State) → Step
view_reading_view views.New k = expects (sign identifier) (λ f. expects (sign dot) (λ u. expects a_property (λ p. expects (sign open_paren) (λ v. expects (sign identifier) (λ h. expects (sign close_paren) (λ w. goes (k (view f.text p.text h.text))))))))
view_reading_view (views.Dot f) k = expects (sign dot) (λ u. expects a_property (λ p. expects (sign open_paren) (λ v. expects (sign identifier) (λ h. expects (sign close_paren) (λ w. goes (k (view f.text.now p.text h.text)))))))
view_reading_view (views.Property f) k = expects a_property (λ p. expects (sign open_paren) (λ v. expects (sign identifier) (λ h. expects (sign close_paren) (λ w. goes (k (view f.text.now p.text h.text))))))
view_reading_view (views.Open f p) k = expects (sign open_paren) (λ v. expects (sign identifier) (λ h. expects (sign close_paren) (λ w. goes (k (view f.text.now p.text.now h.text)))))
view_reading_view (views.Heap f p) k = expects (sign identifier) (λ h. expects (sign close_paren) (λ w. goes (k (view f.text.now p.text.now h.text))))
view_reading_view (views.Close f p h) k = before_close (lexeme_view f) (lexeme_view p) (lexeme_view h) k

abbrev pub init_reading_view : InitReading → (Init → State) → Step
init_reading_view inits.Any k = goes (at_init k)
init_reading_view inits.Literal k = goes (at_literal true k)
init_reading_view (inits.Sign m) k = goes (after_sign true (lexeme_view m) k)
init_reading_view (inits.Dot f) k = expects (sign dot) (λ t. expects a_property (λ p. goes (after_member (lexeme_view f) p k)))
init_reading_view (inits.Property f) k = expects a_property (λ p. goes (after_member (lexeme_view f) p k))
init_reading_view (inits.Member f p) k = goes (after_member (lexeme_view f) (lexeme_view p) k)
init_reading_view (inits.Zero f p) k = before_zero (lexeme_view f) (lexeme_view p) k
init_reading_view (inits.Math f) k = before_math (lexeme_view f) k
init_reading_view inits.Double k = expects (sign identifier) (λ f. expects (sign dot) (λ u. expects a_property (λ p. goes (k (foreign_double f.text p.text)))))
init_reading_view (inits.DoubleDot f) k = expects (sign dot) (λ u. expects a_property (λ p. goes (k (foreign_double f.text.now p.text))))
init_reading_view (inits.DoubleProperty f) k = before_double (lexeme_view f) k
init_reading_view (inits.View r) k = view_reading_view r k

abbrev pub init_step_view : InitStep → (Init → State) → Lexeme → Step
init_step_view (init_steps.On r) k t = init_reading_view r k
init_step_view (init_steps.Taken i) k t = goes (k (init_view i))
init_step_view (init_steps.Before i) k t = feed (k (init_view i)) t
init_step_view init_steps.Stuck k t = stuck t
