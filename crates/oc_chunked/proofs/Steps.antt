-- One step more, from stage to stage.
use Rattle.std.proofs.Common.{◌≡◌, ℕ, List, [], ◌++◌, take, drop, Some, refl, sym, ap, ◌∙◌, subst, arith}
use Rattle.std.proofs.lemmas.List.{append_assoc, append-nil, take-append-drop}
use Rattle.oc_http.proofs.Heads.{IsUnfinished-none}
use Rattle.oc_chunked.specs.Chunked.{print_chunks, content_of}
use Rattle.oc_chunked.specs.Stages.{DecoderState, in_size, in_chunk, in_trailer, ended, refused, fault_in}
use Rattle.oc_chunked.specs.declared.fault.ChunkFault.{ChunkFault}
use Rattle.oc_chunked.specs.Taken.{IsTaken, Takes, LeadsOn, RefusesPiece}
use Rattle.oc_chunked.proofs.Forms.{size_form}

-- no bytes lead nowhere else
pub Takes-none : (s : DecoderState) → Takes s [] [] s
Takes-none s = record {
  on = λ before given taken. record {
    chunks = taken.chunks;
    behind = taken.behind;
    more = taken.more;
    all = taken.all;
    leads = taken.leads;
    bytes_are = append-nil before ∙ taken.bytes_are;
    content_is = append-nil given ∙ taken.content_is;
  };
}

-- one step after another
pub Takes-then : (a b c : DecoderState) (x y p q : List ℕ) → Takes a x p b → Takes b y q c → Takes a (x ++ y) (p ++ q) c
Takes-then a b c x y p q first second = record {
  on = λ before given taken.
      let done = second.on (before ++ x) (given ++ p) (first.on before given taken) in record {
        chunks = done.chunks;
        behind = done.behind;
        more = done.more;
        all = done.all;
        leads = done.leads;
        bytes_are = sym (append_assoc before x y) ∙ done.bytes_are;
        content_is = sym (append_assoc given p q) ∙ done.content_is;
      };
}

-- a step after whole chunks is a step
pub Takes-behind : (s t : DecoderState) (x c : List ℕ) → ((behind more : List ℕ) → LeadsOn s behind more → LeadsOn t (behind ++ x) (more ++ c)) → Takes s x c t
Takes-behind s t x c step = record {
  on = λ before given taken. record {
    chunks = taken.chunks;
    behind = taken.behind ++ x;
    more = taken.more ++ c;
    all = taken.all;
    leads = step taken.behind taken.more taken.leads;
    bytes_are = ap (λ (z : List ℕ). z ++ x) taken.bytes_are ∙ append_assoc (print_chunks taken.chunks) taken.behind x;
    content_is = ap (λ (z : List ℕ). z ++ c) taken.content_is ∙ append_assoc (content_of taken.chunks) taken.more c;
  };
}

-- no bytes lead to the beginning
pub nothing_taken : IsTaken [] [] (in_size [])
nothing_taken = record {
  chunks = [];
  behind = [];
  more = [];
  all = tt;
  leads = record { bytes_are = refl; content_is = refl; unfinished = IsUnfinished-none size_form; short = omega arith };
  bytes_are = refl;
  content_is = refl;
}

-- a stage with a fault is that of refused bytes
pub refused_in : (s : DecoderState) (fault : ChunkFault) → fault_in s ≡ Some fault → s ≡ refused fault
refused_in (in_size line) fault is = cc
refused_in (in_chunk left) fault is = cc
refused_in (in_trailer front) fault is = cc
refused_in ended fault is = cc
refused_in (refused other) fault is = cc

-- the prefix of a piece that leads to a refusal
pub refused_piece : (old new : DecoderState) (piece content : List ℕ) (count : ℕ) (fault : ChunkFault) → new ≡ refused fault → Takes old (take count piece) content new → RefusesPiece old piece fault
refused_piece old new piece content count fault is takes = record {
  front = take count piece;
  rest = drop count piece;
  content = content;
  piece_is = sym (take-append-drop count piece);
  takes = subst (λ (s : DecoderState). Takes old (take count piece) content s) is takes;
}
