-- What a code says in words.
use Rattle.std.specs.Prelude.{◌≡◌, ◌==◌, ◌⊎◌, ◌≤◌, ◌+◌, ◌++◌, ◌∷◌, ℕ, List, codes, if◌then◌else◌, length, drop}

abbrev pub code_text : ℕ → List ℕ
code_text code =
    if code == 0 then codes "done"
    else (if code == 1 then codes "out of memory"
    else (if code == 2 then codes "a handle holds nothing"
    else (if code == 3 then codes "a handle that is to be made holds something already"
    else (if code == 4 then codes "arrays differ in length, or one is too short"
    else (if code == 5 then codes "a name is not 1 to 64 bytes from 0x21 to 0x7E, or a kind is *"
    else (if code == 6 then codes "a weight is more than 2^40 in size"
    else (if code == 7 then codes "a time is 2^63 or later"
    else (if code == 8 then codes "an index or an end is past its dictionary, or there is no such operation"
    else (if code == 9 then codes "a desk can't have so many blocks"
    else (if code == 10 then codes "the batch is full"
    else (if code == 11 then codes "the desk has applied as many batches as its limits allow"
    else (if code == 12 then codes "there would be too many vertices"
    else (if code == 13 then codes "there would be too many kinds"
    else (if code == 14 then codes "too few blocks are free"
    else (if code == 15 then codes "16 versions are held, or the hold is none of this desk"
    else (if code == 16 then codes "there is no such vertex"
    else (if code == 17 then codes "there is no such kind"
    else (if code == 18 then codes "there is no such edge"
    else (if code == 19 then codes "a limit is 0 or too large"
    else (if code == 20 then codes "the desk has a vertex already"
    else (if code == 21 then codes "the struct has another size than any in this interface"
    else codes "this library has no such code")))))))))))))))))))))

-- the words are written with a 0 behind them, and all else is as it was; or they have no room
abbrev pub WritesText : List ℕ → List ℕ → List ℕ → ℕ → Type 0
WritesText words old new code =
    ((code ≡ 0) × (new ≡ words ++ 0 ∷ drop (length words + 1) old))
    ⊎ ((length old ≤ length words) × (code ≡ 4) × (new ≡ old))
