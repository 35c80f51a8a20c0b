-- A taken method reads in its rewritten class as the program's, and the name of its duplicate leads to this.
use Rattle.std.proofs.Common.{◌≡◌, ℕ, List, [], ◌∷◌, ◌++◌, length, Some, sym, ap, ◌∙◌, subst}
use Rattle.std.specs.Prelude.{slice_get}
use Rattle.jmodel.specs.declared.name.MethodName.{MethodName}
use Rattle.jmodel.specs.declared.typing.VType.{VType}
use Rattle.jmodel.specs.format.ClassFile.{Member, ClassFile}
use Rattle.objects.specs.linking.Classes.{full_name}
use Rattle.objects.specs.declared.op.Dispatch.{Dispatch}
use Rattle.objects.specs.declared.op.Dispatch.TheVariants as dispatch
use Rattle.objects.specs.semantics.Program.{Method, Program, method_at}
use Rattle.objects.specs.linking.Decoding.{Symbols}
use Rattle.objects.specs.linking.Linking.{receiver_types, parameter_types, taken_methods, original_symbols}
use Rattle.objects.specs.laws.LinkingLaw.{AreRead, IsUpward}
use Rattle.objects.specs.rewriting.Relinking.{rewritten_symbols}
use Rattle.objects.specs.rewriting.Rewriting.{duplicate, invoke}
use Rattle.objects.proofs.Items.{IsAt}
use Rattle.objects.proofs.Links.{IsLinkedTo}
use Rattle.retry_wrapper.specs.WrapperLaw.{call_op, IsRoot}
use Rattle.rewritten_code.specs.OldLaw.{IsSameHead}
use Rattle.rewritten_names.specs.Heads.{Rewrites}
use Rattle.rewritten_names.specs.NamesLaw.{NamesAre}
use Rattle.rewritten_names.specs.LeadsLaw.{as_member, copy_member, Leads}
use Rattle.rewritten_ties.proofs.OwnMethods.{static_called, special_called, its_meaning}

module _ (cs : List ClassFile) (P : Program) (read : AreRead cs) (l : IsLinkedTo cs P) (up : IsUpward cs) (c : ClassFile) (at : IsAt cs c) (j : ℕ) (m : Member) (taken : slice_get (taken_methods cs) j ≡ Some (record { class = c; member = m }))
    (ds : List ClassFile) (h d : ClassFile) (r : Rewrites P c d) (N : NamesAre P ds h) (L : Leads cs P h (original_symbols cs c) (rewritten_symbols P cs (ds ++ h ∷ []) d)) where
  abbrev s : Symbols
  s = rewritten_symbols P cs (ds ++ h ∷ []) d

  -- the call of its duplicate, however it is called
  called : (w : Dispatch) → call_op s w (copy_member (as_member (full_name (record { class = c; member = m })))) ≡ Some (invoke w (duplicate P j))
  called dispatch.Static = static_called cs P read l up c at j m taken ds h d r N L
  called dispatch.Exact = special_called cs P read l up c at j m taken ds h d r N L
  called dispatch.Virtual = special_called cs P read l up c at j m taken ds h d r N L
  called dispatch.Abstract = special_called cs P read l up c at j m taken ds h d r N L

  -- the method with its duplicate
  pub is_root : IsSameHead (original_symbols cs c) s m → (k : Method) → method_at P j ≡ Some k → IsRoot s m k (duplicate P j)
  is_root head k e =
      let f = its_meaning cs P read l up c at j m taken k e in
      let means = f.1 in
      let name : full_name (record { class = c; member = m }) ≡ k.name = sym (ap (λ (k : Method). k.name) means.is) in
      record {
        name = head.name ∙ name;
        dispatch = head.dispatch ∙ sym (ap (λ (k : Method). k.dispatch) means.is);
        signature = means.signature;
        signed = head.signature ∙ means.described;
        parameters = ap (λ (ts : List VType). ts ++ parameter_types s.classes means.signature) head.receiver ∙ ap (λ (ts : List VType). receiver_types cs c m ++ ts) (head.parameters means.signature means.described) ∙ sym (ap (λ (k : Method). k.parameters) means.is);
        places = ap (λ (k : Method). length k.parameters) means.is ∙ sym (ap (λ (k : Method). k.places) means.is);
        result = head.result means.signature means.described ∙ sym (ap (λ (k : Method). k.result) means.is);
        retries = head.retries ∙ sym (ap (λ (k : Method). k.retries) means.is);
        duplicate = subst (λ (n : MethodName). call_op s k.dispatch (copy_member (as_member n)) ≡ Some (invoke k.dispatch (duplicate P j))) name (called k.dispatch);
      }
