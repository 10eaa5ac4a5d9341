-- Small cases of the definitions, each computed.
use Rattle.std.proofs.Common.{◌≡◌, [], ◌∷◌, Some, None, refl, ◌-◌, ◌^◌}
use Rattle.bridge_io.specs.Outside.{Told, content_of, raised, appended}
use Rattle.bridge_io.specs.InMemory.{read_len, read_into}

-- two files: 7 8 9 under the name 1, and none under the name 2
two_files : Told
two_files = (1 ∷ [], 7 ∷ 8 ∷ 9 ∷ []) ∷ (2 ∷ [], []) ∷ []

content_of-there : content_of two_files (1 ∷ []) ≡ Some (7 ∷ 8 ∷ 9 ∷ [])
unfolding two_files
content_of-there = refl

content_of-empty : content_of two_files (2 ∷ []) ≡ Some []
unfolding two_files
content_of-empty = refl

content_of-nowhere : content_of two_files (1 ∷ 2 ∷ []) ≡ None
unfolding two_files
content_of-nowhere = refl

raised-counts : raised 3 4 ≡ 7
raised-counts = refl

raised-stays : raised 3 (2 ^ 64 - 2) ≡ 2 ^ 64 - 1
raised-stays = refl

appended-told : appended (Some (1 ∷ [])) (2 ∷ []) ≡ Some (1 ∷ 2 ∷ [])
appended-told = refl

appended-untold : appended None (2 ∷ []) ≡ None
appended-untold = refl

-- a read at 1 of three bytes gives two, and the rest of the buffer stays
read_into-front : read_into (7 ∷ 8 ∷ 9 ∷ []) 1 (0 ∷ 0 ∷ 0 ∷ 0 ∷ []) ≡ 8 ∷ 9 ∷ 0 ∷ 0 ∷ []
read_into-front = refl

read_len-past : read_len (7 ∷ 8 ∷ 9 ∷ []) 3 4 ≡ 0
read_len-past = refl
