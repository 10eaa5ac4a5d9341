-- What the definition says of words that are written out.
use Rattle.std.proofs.Common.{◌≡◌, refl, [], ◌∷◌, Some, None, codes}
use Rattle.clap.proofs.OnLiterals.{clap_on_literals}
use Rattle.bridge_lang.specs.App.{bridge_app, faults_of, rows_read}
use Rattle.bridge_lang.specs.Number.{is_gen_count, is_heap, is_steps, number_of}
use Rattle.bridge_lang.specs.declared.making.Making.TheVariants.{Show}
use Rattle.bridge_lang.specs.Command.{as_binary, make, link, run, on_file, gen}
use Rattle.bridge_lang.specs.Words.{making_named, given_in, heap_of, asked_in, asked_by, asked, lone_operand, steps_of}

steps_by_word : asked (codes "bridge" ∷ codes "run-wasm" ∷ codes "a" ∷ codes "b" ∷ codes "--steps" ∷ codes "5" ∷ []) ≡ Some (on_file (run as_binary (codes "b") 5) (codes "a"))
unfolding bridge_app faults_of rows_read number_of is_heap is_steps lone_operand heap_of steps_of making_named asked_by given_in asked_in asked clap_on_literals
steps_by_word = refl

steps_by_equals : asked (codes "bridge" ∷ codes "--steps=5" ∷ codes "run-wasm" ∷ codes "a" ∷ codes "b" ∷ []) ≡ Some (on_file (run as_binary (codes "b") 5) (codes "a"))
unfolding bridge_app faults_of rows_read number_of is_heap is_steps lone_operand heap_of steps_of making_named asked_by given_in asked_in asked clap_on_literals
steps_by_equals = refl

twice_refused : asked (codes "bridge" ∷ codes "run-wasm" ∷ codes "a" ∷ codes "b" ∷ codes "--steps=5" ∷ codes "--steps=5" ∷ []) ≡ None
unfolding bridge_app faults_of rows_read number_of is_heap is_steps lone_operand heap_of steps_of making_named asked_by given_in asked_in asked clap_on_literals
twice_refused = refl

after_dashes : asked (codes "bridge" ∷ codes "show" ∷ codes "--" ∷ codes "--steps" ∷ []) ≡ Some (on_file (make Show) (codes "--steps"))
unfolding bridge_app faults_of rows_read number_of is_heap is_steps lone_operand heap_of steps_of making_named asked_by given_in asked_in asked clap_on_literals
after_dashes = refl

two_to_link : asked (codes "bridge" ∷ codes "link" ∷ codes "a" ∷ codes "b" ∷ []) ≡ Some (on_file (link (codes "b")) (codes "a"))
unfolding bridge_app faults_of rows_read number_of is_heap is_steps lone_operand heap_of steps_of making_named asked_by given_in asked_in asked clap_on_literals
two_to_link = refl

one_to_link : asked (codes "bridge" ∷ codes "link" ∷ codes "a" ∷ []) ≡ None
unfolding bridge_app faults_of rows_read number_of is_heap is_steps lone_operand heap_of steps_of making_named asked_by given_in asked_in asked clap_on_literals
one_to_link = refl

link_takes_no_option : asked (codes "bridge" ∷ codes "link" ∷ codes "a" ∷ codes "b" ∷ codes "--steps" ∷ codes "5" ∷ []) ≡ None
unfolding bridge_app faults_of rows_read number_of is_heap is_steps lone_operand heap_of steps_of making_named asked_by given_in asked_in asked clap_on_literals
link_takes_no_option = refl

no_words : asked [] ≡ None
unfolding bridge_app faults_of rows_read number_of is_heap is_steps lone_operand heap_of steps_of making_named asked_by given_in asked_in asked clap_on_literals
no_words = refl

gen_by_number : asked (codes "bridge" ∷ codes "gen" ∷ codes "200" ∷ []) ≡ Some (gen 200)
unfolding bridge_app faults_of rows_read number_of is_gen_count is_heap is_steps lone_operand heap_of steps_of making_named asked_by given_in asked_in asked clap_on_literals
gen_by_number = refl

none_to_gen : asked (codes "bridge" ∷ codes "gen" ∷ codes "0" ∷ []) ≡ None
unfolding bridge_app faults_of rows_read number_of is_gen_count is_heap is_steps lone_operand heap_of steps_of making_named asked_by given_in asked_in asked clap_on_literals
none_to_gen = refl

too_many_to_gen : asked (codes "bridge" ∷ codes "gen" ∷ codes "10001" ∷ []) ≡ None
unfolding bridge_app faults_of rows_read number_of is_gen_count is_heap is_steps lone_operand heap_of steps_of making_named asked_by given_in asked_in asked clap_on_literals
too_many_to_gen = refl

gen_takes_no_option : asked (codes "bridge" ∷ codes "gen" ∷ codes "200" ∷ codes "--steps" ∷ codes "5" ∷ []) ≡ None
unfolding bridge_app faults_of rows_read number_of is_gen_count is_heap is_steps lone_operand heap_of steps_of making_named asked_by given_in asked_in asked clap_on_literals
gen_takes_no_option = refl
