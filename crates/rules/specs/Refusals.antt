-- Document 01, "Refusal numbers", with document 02's 11 and 13 and the lean's 35. These are definitions: nothing here is proved.
use Rattle.std.specs.Prelude.{ℕ}
use Rattle.rules.specs.declared.Refusal.{Refusal}
use Rattle.rules.specs.declared.Refusal.TheVariants.{Reach, Frame, Solid, Place, Start, Apex, Axis, Edge, Steps, Sum, Corner, Ready, Magic, Header, Sides, OtherSides, Rows, Images, Room, Normal, Measure}

abbrev pub number_of : Refusal → ℕ
number_of Reach = 1
number_of Frame = 2
number_of Solid = 3
number_of Place = 4
number_of Start = 5
number_of Apex = 6
number_of Axis = 7
number_of Edge = 8
number_of Steps = 9
number_of Sum = 10
number_of Corner = 11
number_of Ready = 13
number_of Magic = 21
number_of Header = 22
number_of Sides = 23
number_of OtherSides = 24
number_of Rows = 25
number_of Images = 26
number_of Room = 27
number_of Normal = 30
number_of Measure = 35
