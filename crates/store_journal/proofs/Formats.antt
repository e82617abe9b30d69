-- The formatting of a device, and what a read keeps.
use Rattle.std.proofs.Common.{rules, Result, Ok, Err, OnOk, Bool}
use Rattle.sector_device.specs.Disk.{Disk}
use Rattle.sector_device.specs.Sectors.{KeepsImages}
use Rattle.sector_device.proofs.Moments.{joined, leaves_weaker}
use Rattle.refusals.specs.declared.numbers.TheConstants.{DEVICE}
use Rattle.sector_device.specs.Charges.{Failed}
use Rattle.store_journal.specs.Layout.{IsSized}
use Rattle.store_journal.specs.Opening.{FormatRefusal, format_calls}

pub always_ok : {T E P : Type 0} (result : Result T E) → P → OnOk result P
always_ok (Ok value) p = p
always_ok (Err fault) p = tt

pub keeps_joined : (old mid new : Disk) → KeepsImages old mid → KeepsImages mid new → KeepsImages old new
keeps_joined old mid new first second = search (rules, first, second, joined, leaves_weaker)

-- a device that failed is not formatted
pub format_failed : (rides : Bool) (old new : Disk) → IsSized rides old.sectors → Failed old new (format_calls rides) → FormatRefusal rides old new DEVICE
format_failed rides old new sized failed = search (rules, sized, failed)
