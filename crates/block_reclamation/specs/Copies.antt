-- Pins of readers, the copy of them that a collection goes by, its floor, and which retired blocks it needs.
use Rattle.std.specs.Prelude.{ℕ, Bool, true, false, not, ◌&&◌, ◌||◌, nat_le, nat_lt, min, max, List, [], ◌∷◌, map, replicate}
use Rattle.std.specs.{Prelude.slice_index_or, List.list_any, declared.option.Option.{Option, TheVariants.{None, Some}}}
use Rattle.block_reclamation.specs.declared.copies.{Pin.Pin, PinCopy.PinCopy, TheConstants.SEATS}

-- Pins

-- a pin that is set before a version is entered
abbrev pub unsettled : ℕ → Pin
unsettled floor = record { number = floor; is_settled = false }

-- a pin that is raised to the number of the version entered
abbrev pub settled : ℕ → Pin → Pin
settled number pin = record { number = max pin.number number; is_settled = true }

-- the pin of a seat: none at a seat that has none
abbrev pub pin_at : List (Option Pin) → ℕ → Option Pin
pin_at pins seat = slice_index_or pins seat None

-- a pin that has told the number of its version, and one that hasn't
abbrev pub number_if : Bool → ℕ → Option ℕ
number_if true number = Some number
number_if false number = None

abbrev pub settled_number : Option Pin → Option ℕ
settled_number None = None
settled_number (Some pin) = number_if pin.is_settled pin.number

abbrev pub unsettled_number : Option Pin → Option ℕ
unsettled_number None = None
unsettled_number (Some pin) = number_if (not pin.is_settled) pin.number

-- Copies

-- the copy of the last number and of the pins as they stand
abbrev pub copy_of : ℕ → List (Option Pin) → PinCopy
copy_of last pins = record { last = last; settled = map settled_number pins; unsettled = map unsettled_number pins }

-- number 0, and no pin
abbrev pub no_copy : PinCopy
no_copy = record { last = 0; settled = replicate SEATS None; unsettled = replicate SEATS None }

-- the least of a number and of pins
abbrev pub lesser : ℕ → Option ℕ → ℕ
lesser n None = n
lesser n (Some m) = min n m

abbrev pub least_of : ℕ → List (Option ℕ) → ℕ
least_of n [] = n
least_of n (pin ∷ pins) = least_of (lesser n pin) pins

-- the floor: the least of the last number and all pins
abbrev pub floor_of : PinCopy → ℕ
floor_of copy = least_of (least_of copy.last copy.settled) copy.unsettled

-- each block that was retired after this number is needed
abbrev pub reach_of : PinCopy → ℕ
reach_of copy = least_of copy.last copy.unsettled

-- a pin that may hold a version of a block of this birth and retirement: a settled one, and an unsettled one
abbrev pub is_between : ℕ → ℕ → Option ℕ → Bool
is_between birth retirement None = false
is_between birth retirement (Some pin) = nat_le birth pin && nat_lt pin retirement

abbrev pub is_pin_before : ℕ → Option ℕ → Bool
is_pin_before retirement None = false
is_pin_before retirement (Some pin) = nat_lt pin retirement

abbrev pub needs : PinCopy → ℕ → ℕ → Bool
needs copy birth retirement =
    nat_lt copy.last retirement
    || (list_any (is_between birth retirement) copy.settled || list_any (is_pin_before retirement) copy.unsettled)
