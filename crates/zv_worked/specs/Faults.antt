-- Worked counts of faults: how many there were before a call, and how many there are after it.
use Rattle.zv_devices.specs.Devices.{Rose}

-- a first fault is counted
abbrev pub OneMore : Type 0
OneMore = Rose 0 1

-- and one after others
abbrev pub OneMoreOfMany : Type 0
OneMoreOfMany = Rose 3 4

-- a call may meet several
abbrev pub SeveralMore : Type 0
SeveralMore = Rose 3 7

-- but not none
abbrev pub NoneMore : Type 0
NoneMore = Rose 0 0 → ⊥

-- nor none after others
abbrev pub CountStays : Type 0
CountStays = Rose 3 3 → ⊥

-- the highest count is 2^64 - 1: it is reached
abbrev pub LastBelowHighest : Type 0
LastBelowHighest = Rose 18446744073709551614 18446744073709551615

-- which one less is not
abbrev pub NotTheHighest : Type 0
NotTheHighest = Rose 18446744073709551614 18446744073709551614 → ⊥

-- and stays there
abbrev pub HighestStays : Type 0
HighestStays = Rose 18446744073709551615 18446744073709551615
