-- What the definition says of texts that are written out.
use Rattle.std.proofs.Common.{◌≡◌, refl, [], ◌∷◌, Some, None, Ok, Err, codes, pos, negsuc, ◌^◌, ◌-◌}
use Rattle.hex.proofs.OnLiterals.{hex_on_literals}
use Rattle.session_lang.specs.Script.{give, throw}
use Rattle.script_lang.specs.Numbers.{number_of, place_of}
use Rattle.script_lang.specs.Names.{name_of, bytes_of}
use Rattle.script_lang.specs.Lines.{lines_of, words_of}
use Rattle.script_lang.specs.Reading.{said_script}

-- ---- lines and words

two_lines : lines_of (codes "a\r\nb") ≡ codes "a" ∷ codes "b" ∷ []
two_lines = refl

last_return_stays : lines_of (codes "a\r") ≡ codes "a\r" ∷ []
last_return_stays = refl

some_words : words_of (codes " call\tf  1 ") ≡ codes "call" ∷ codes "f" ∷ codes "1" ∷ []
some_words = refl

-- ---- numbers, names and bytes

nought : number_of (codes "0") ≡ Some (pos 0)
nought = refl

least : number_of (codes "-9223372036854775808") ≡ Some (negsuc (2 ^ 63 - 1))
least = refl

too_small : number_of (codes "-9223372036854775809") ≡ None
too_small = refl

largest : number_of (codes "18446744073709551615") ≡ Some (pos (2 ^ 64 - 1))
largest = refl

too_large : number_of (codes "18446744073709551616") ≡ None
too_large = refl

no_minus_nought : number_of (codes "-0") ≡ None
no_minus_nought = refl

no_leading_nought : number_of (codes "01") ≡ None
no_leading_nought = refl

last_place : place_of (codes "268435455") ≡ Some 268435455
last_place = refl

no_place : place_of (codes "268435456") ≡ None
no_place = refl

spelled : name_of (codes "%6a4B") ≡ Some (codes "jK")
unfolding hex_on_literals
spelled = refl

empty_name : name_of (codes "%") ≡ Some []
empty_name = refl

odd_digits : name_of (codes "%6") ≡ None
unfolding hex_on_literals
odd_digits = refl

no_bytes : bytes_of [] ≡ None
no_bytes = refl

-- ---- whole scripts

each_kind : said_script (codes "# all kinds\nglobal g -1\n\nheap 16 0aFF\ncall f 1 -2\nreply -1 4=00 8=01\nthrow\n") ≡ Ok (record {
  globals = record { name = codes "g"; value = negsuc 0; line = 2 } ∷ [];
  writes = record { at = 16; bytes = 10 ∷ 255 ∷ []; line = 4 } ∷ [];
  calls = record { name = codes "f"; args = pos 1 ∷ negsuc 1 ∷ []; line = 5 } ∷ [];
  replies = record { reply = give (2 ^ 64 - 1) (record { at = 4; bytes = 0 ∷ []; line = 6 } ∷ record { at = 8; bytes = 1 ∷ []; line = 6 } ∷ []); line = 6 } ∷ record { reply = throw; line = 7 } ∷ [];
})
unfolding said_script hex_on_literals
each_kind = refl

first_fault : said_script (codes "call f\ncall f x\nthrow 1") ≡ Err 2
unfolding said_script
first_fault = refl

no_text : said_script [] ≡ Ok (record { globals = []; writes = []; calls = []; replies = [] })
unfolding said_script
no_text = refl
