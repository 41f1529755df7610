-- The words, the quote and the escapes of the bytes so far are in the text, at most four bytes an escape.
use Rattle.gix_validate.proofs.Common.{◌≡◌, ◌+◌, ◌*◌, ◌≤◌, ◌++◌, length, take, codes, flat_map}
use Rattle.arrayvec.specs.ArrayString.{array_string_len}
use Rattle.gix_validate.specs.Quoted.{escape_of}
use Rattle.gix_validate_c.proofs.texts.write_text.Given as goal

abbrev pub invariant-loop-byte : goal.invariant-loop-byte
invariant-loop-byte l = record {
  written : l.shown.bytes
      ≡ l.fn.text.words.now ++ codes "\"" ++ flat_map escape_of (take l.byte-index l.bytes);
  room : array_string_len l.shown ≤ length l.fn.text.words.now + 4 * l.byte-index + 1;
}
