-- What is told of each refusal: its number, its bit place where it is of a plan file, and words.
use Rattle.std.specs.Prelude.{ℕ, List, Some, None, codes, Option}
use Rattle.refusal.specs.declared.reason.Refusal.{Refusal}
use Rattle.refusal.specs.declared.reason.Refusal.TheVariants.{CutShort, OutOfRange, NotAscending, TooManyRows, Unnamed, NotPadded, NotInPlan, NoRoom, AboveMost, OtherRolls, NoSaveFree, NoSaveKept, NotNow, NoCommand}

-- the number by which programs know it
abbrev pub number_of : Refusal → ℕ
number_of (CutShort p) = 1
number_of (OutOfRange p) = 2
number_of (NotAscending p) = 3
number_of (TooManyRows p) = 4
number_of (Unnamed p) = 5
number_of (NotPadded p) = 6
number_of NotInPlan = 7
number_of NoRoom = 8
number_of AboveMost = 9
number_of OtherRolls = 10
number_of NoSaveFree = 11
number_of NoSaveKept = 12
number_of NotNow = 13
number_of NoCommand = 14

-- the bit place in the plan file, counted from 0
abbrev pub place_of : Refusal → Option ℕ
place_of (CutShort p) = Some p
place_of (OutOfRange p) = Some p
place_of (NotAscending p) = Some p
place_of (TooManyRows p) = Some p
place_of (Unnamed p) = Some p
place_of (NotPadded p) = Some p
place_of _ = None

-- one line for people: what is wrong, at the bit place where there is one
abbrev pub words_of : Refusal → List ℕ
words_of (CutShort p) = codes "the file ends inside the number that begins here"
words_of (OutOfRange p) = codes "the number here is out of its range: the edition is not 1, or a count, a width, a setting number or a value is too low or too high"
words_of (NotAscending p) = codes "the setting number or the row that begins here is not above the one before it in its table"
words_of (TooManyRows p) = codes "with the row count here the tables have more than 4096 rows"
words_of (Unnamed p) = codes "the tables end here, and some setting is named by none of them"
words_of (NotPadded p) = codes "the tables end here, and something else follows than zero bits up to the end of the byte"
words_of NotInPlan = codes "a setting, value, table or row is not in the plan, or a partner is sought in the row's own table"
words_of NoRoom = codes "there are too few cells or too few table records for the plan"
words_of AboveMost = codes "the roll does not take so many numbers"
words_of OtherRolls = codes "the rolls are not those of the worked plan: a size or a number of saves differs"
words_of NoSaveFree = codes "a roll has no save free"
words_of NoSaveKept = codes "there is no save to return to"
words_of NotNow = codes "the command is not for this state"
words_of NoCommand = codes "the line is no command"
