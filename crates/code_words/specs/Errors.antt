-- Why the system refuses a file, by the kind of its error.
use Rattle.std.specs.Prelude.{ℕ, List}
use Rattle.std.specs.declared.io.ErrorKind.{ErrorKind}
use Rattle.std.specs.declared.io.ErrorKind.TheVariants.{NotFound, PermissionDenied, IsADirectory, NotADirectory, InvalidFilename, FilesystemLoop, ReadOnlyFilesystem, StorageFull, QuotaExceeded, FileTooLarge, Interrupted, BrokenPipe, OutOfMemory}
use Rattle.code_words.specs.declared.phrases.TheConstants.{ERROR_BROKEN_PIPE, ERROR_FILESYSTEM_LOOP, ERROR_FILE_TOO_LARGE, ERROR_INTERRUPTED, ERROR_INVALID_FILENAME, ERROR_IS_A_DIRECTORY, ERROR_NOT_A_DIRECTORY, ERROR_NOT_FOUND, ERROR_OTHER, ERROR_OUT_OF_MEMORY, ERROR_PERMISSION_DENIED, ERROR_QUOTA_EXCEEDED, ERROR_READ_ONLY_FILESYSTEM, ERROR_STORAGE_FULL}

-- what the kind of an error says of the file that is told with it
abbrev pub error_phrase : ErrorKind → List ℕ
error_phrase NotFound = ERROR_NOT_FOUND.now
error_phrase PermissionDenied = ERROR_PERMISSION_DENIED.now
error_phrase IsADirectory = ERROR_IS_A_DIRECTORY.now
error_phrase NotADirectory = ERROR_NOT_A_DIRECTORY.now
error_phrase InvalidFilename = ERROR_INVALID_FILENAME.now
error_phrase FilesystemLoop = ERROR_FILESYSTEM_LOOP.now
error_phrase ReadOnlyFilesystem = ERROR_READ_ONLY_FILESYSTEM.now
error_phrase StorageFull = ERROR_STORAGE_FULL.now
error_phrase QuotaExceeded = ERROR_QUOTA_EXCEEDED.now
error_phrase FileTooLarge = ERROR_FILE_TOO_LARGE.now
error_phrase Interrupted = ERROR_INTERRUPTED.now
error_phrase BrokenPipe = ERROR_BROKEN_PIPE.now
error_phrase OutOfMemory = ERROR_OUT_OF_MEMORY.now
error_phrase _ = ERROR_OTHER.now
