-- The reasons why a file is not made or opened.
use Rattle.std.specs.Prelude.{ℕ, List, codes, pos, ◌==◌, ◌||◌, if◌then◌else◌, unsigned_abs, unwrap_or}
use Rattle.std.specs.IoError.{error_kind, raw_os_error}
use Rattle.std.specs.declared.io.Error.{Error}
use Rattle.std.specs.declared.io.ErrorKind.{ErrorKind}
use Rattle.std.specs.declared.io.ErrorKind.TheVariants.{StorageFull, QuotaExceeded, FileTooLarge, AlreadyExists, NotFound, NotADirectory, IsADirectory, PermissionDenied, ReadOnlyFilesystem}
use Rattle.std.specs.declared.fs.TryLockError.{TryLockError}
use Rattle.std.specs.declared.fs.TryLockError.TheVariants as lock
use Rattle.file_device.specs.declared.fault.Cause.{Cause}
use Rattle.file_device.specs.declared.fault.Cause.TheVariants.{Exists, Missing, Folder, Denied, ReadOnly, Descriptors, Other}
use Rattle.file_device.specs.declared.fault.SystemFault.{SystemFault}
use Rattle.file_device.specs.declared.fault.FileFault.{FileFault}
use Rattle.file_device.specs.declared.fault.FileFault.TheVariants.{InUse, NoSpace, File}

-- the system's number of an error; 0 if it gave none
abbrev pub number_of : Error → ℕ
number_of error = unsigned_abs (unwrap_or (raw_os_error error) (pos 0))

-- why, by the kind of an error and its number; no descriptor is left to the process by 24, and to the system by 23
abbrev pub cause_of : ErrorKind → ℕ → Cause
cause_of AlreadyExists errno = Exists
cause_of NotFound errno = Missing
cause_of NotADirectory errno = Missing
cause_of IsADirectory errno = Folder
cause_of PermissionDenied errno = Denied
cause_of ReadOnlyFilesystem errno = ReadOnly
cause_of _ errno = if (errno == 24) || (errno == 23) then Descriptors else Other

-- the word of a cause
abbrev pub word_of : Cause → List ℕ
word_of Exists = codes "exists"
word_of Missing = codes "missing"
word_of Folder = codes "folder"
word_of Denied = codes "denied"
word_of ReadOnly = codes "read-only"
word_of Descriptors = codes "descriptors"
word_of Other = codes "other"

-- the fault of a call of the system that failed with an error of this kind and number
abbrev pub fault_of : ErrorKind → ℕ → FileFault
fault_of StorageFull errno = NoSpace
fault_of QuotaExceeded errno = NoSpace
fault_of FileTooLarge errno = NoSpace
fault_of kind errno = File (record { cause = cause_of kind errno; errno = errno })

-- the fault if a file is not locked
abbrev pub lock_fault_of : TryLockError → FileFault
lock_fault_of lock.WouldBlock = InUse
lock_fault_of (lock.Error error) = File (record { cause = cause_of (error_kind error) (number_of error); errno = number_of error })
